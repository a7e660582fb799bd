-- What a put or an open comes to, when it belongs where it stands. Assumes nothing.
use Rattle.std.proofs.Common.{◌≡◌, ℕ, ◌+◌, ◌-◌, ◌≤◌, Bool, true, false, cond, not, eqb, ltb, length, Ok, Err, sym, refl, ap, ◌∙◌, arith, Bor}
use Rattle.std.proofs.lemmas.Bool.{le-ltb}
use Rattle.model.specs.Numbers.{Bytes}
use Rattle.model.specs.Attributes.{type_of, rounded}
use Rattle.model.specs.Faults.{FaultNumbers}
use Rattle.model.specs.Book.{Meaning}
use Rattle.model.specs.Page as model
use Rattle.model.specs.Page.{level, put, open_nest, put_belongs, open_belongs, opened_word, reads_alone, check, accepted, own_fault, State, state}
use Rattle.page.specs.declared.page.Page.{Page}
use Rattle.page.specs.declared.level.Level.{Level}
use Rattle.page.specs.declared.call.Call.{Call}
use Rattle.page.specs.declared.call.Call.TheVariants.{Put, Open}
use Rattle.page.specs.Levels.{heads_of}
use Rattle.page.specs.Pages.{as_page}
use Rattle.page.specs.Calls.{meant}
use Rattle.page.specs.Steps.{outcome, refused, stepped, appended, nested}

room : (s t : State) (b : Bool) → cond b (refused s 16) (outcome (Ok tt) t) ≡ outcome (check (not b) (own_fault s.page 16 0)) (cond (accepted (check (not b) (own_fault s.page 16 0))) t s)
room s t true = refl
room s t false = refl

-- memory that the page takes has its length
own_by : (b : Bool) (e : FaultNumbers) → Ok tt ≡ check b e → b ≡ true
own_by true e h = refl
own_by false e h = let z : ◌≡◌ {A = ℕ} 0 1 = cc in absurd (omega arith)

module _ (m : Meaning) (g : model.Page) (mem : Bytes) (e : FaultNumbers) (own : Ok tt ≡ check (eqb (length mem) g.size) e) where
  same : eqb (length mem) g.size ≡ true
  same = own_by (eqb (length mem) g.size) e own

  module _ (w : ℕ) (x : Bytes) (belongs : put_belongs (level g) (type_of w) ≡ true) where
    put_goes : Ok tt ≡ reads_alone m g (level g) w x → appended (state g mem) w x ≡ stepped m (state g mem) (put w x)
    put_goes r = let reads = sym r in rw (same, belongs, reads) (room (state g mem) _ (ltb (g.size - g.used) (4 + rounded (length x))))

    put_stops : (e : FaultNumbers) → Err e ≡ reads_alone m g (level g) w x → outcome (Err e) (state g mem) ≡ stepped m (state g mem) (put w x)
    put_stops e r = let reads = sym r in rw (same, belongs, reads)

  open_goes : (t : ℕ) → t ≤ 16383 → open_belongs (level g) t ≡ true → nested (state g mem) (opened_word (level g) t) ≡ stepped m (state g mem) (open_nest t)
  open_goes t small belongs = let h : ltb 16383 t ≡ false = le-ltb 16383 t small in rw (same, h, belongs) (room (state g mem) _ (ltb (g.size - g.used) 4))

-- ── by the page's level and the call ──
module _ (m : Meaning) (p : Page) (mem : Bytes) (e : FaultNumbers) (own : Ok tt ≡ check (eqb (length mem) p.size) e) (call : Call) (l : Level) (here : p.level ≡ l) where
  abbrev before : State
  before = state (as_page p) mem

  module _ (w : ℕ) (x : Bor Bytes) (is : call ≡ Put w x) (belongs : put_belongs (length (heads_of l)) (type_of w) ≡ true) where
    belongs_here : put_belongs (length (heads_of p.level)) (type_of w) ≡ true
    belongs_here = ap (λ (k : Level). put_belongs (length (heads_of k)) (type_of w)) here ∙ belongs

    reads_here : reads_alone m (as_page p) (length (heads_of l)) w x.now ≡ reads_alone m (as_page p) (length (heads_of p.level)) w x.now
    reads_here = ap (λ (k : Level). reads_alone m (as_page p) (length (heads_of k)) w x.now) (sym here)

    pub put_written : Ok tt ≡ reads_alone m (as_page p) (length (heads_of l)) w x.now → appended before w x.now ≡ stepped m before (meant call)
    put_written r = put_goes m (as_page p) mem e own w x.now belongs_here (r ∙ reads_here) ∙ ap (λ (k : Call). stepped m before (meant k)) (sym is)

    pub put_unread : (f : FaultNumbers) → Err f ≡ reads_alone m (as_page p) (length (heads_of l)) w x.now → outcome (Err f) before ≡ stepped m before (meant call)
    put_unread f r = put_stops m (as_page p) mem e own w x.now belongs_here f (r ∙ reads_here) ∙ ap (λ (k : Call). stepped m before (meant k)) (sym is)

  pub nest_begun : (t w : ℕ) → call ≡ Open t → t ≤ 16383 → open_belongs (length (heads_of l)) t ≡ true → w ≡ opened_word (length (heads_of l)) t → nested before w ≡ stepped m before (meant call)
  nest_begun t w is small belongs word =
      ap (nested before) (word ∙ ap (λ (k : Level). opened_word (length (heads_of k)) t) (sym here))
      ∙ open_goes m (as_page p) mem e own t small (ap (λ (k : Level). open_belongs (length (heads_of k)) t) here ∙ belongs)
      ∙ ap (λ (k : Call). stepped m before (meant k)) (sym is)
