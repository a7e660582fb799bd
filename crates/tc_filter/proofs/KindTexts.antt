-- The kind of an action, text by text. Assumes nothing.
use Rattle.std.proofs.Common.{◌≡◌, ℕ, Bool, true, false, cond, eqb, List, ◌∷◌, Some, Ok, Err, Result, sym, ap, ◌∙◌, subst, arith, Bor}
use Rattle.std.proofs.lemmas.Bool.{eq-eqb}
use Rattle.model.specs.Numbers.{Bytes}
use Rattle.model.specs.Attributes.{type_of}
use Rattle.model.specs.Faults.{FaultNumbers, fault, needing, numbers, cause_number, Read, ◌>>=◌}
use Rattle.model.specs.Text.{is_text, stripped}
use Rattle.model.specs.Walk.{Walked, item}
use Rattle.model.specs.Reading.{kinds, text}
use Rattle.model.specs.declared.fault.Fault.{Fault}
use Rattle.model.specs.declared.fault.Layer.TheVariants.{ActionAttribute}
use Rattle.payload.specs.Errors.{Lack, lack, placed}
use Rattle.payload.specs.Texts.{spelt, text_in}
use Rattle.payload.specs.declared.error.DecodeError.{DecodeError}
use Rattle.netlink.specs.declared.buffer.NlaBuffer.{NlaBuffer}
use Rattle.netlink.specs.declared.walker.NlasIterator.{NlasIterator}
use Rattle.netlink.specs.Walking.{Goes, ahead}
use Rattle.tc_filter.specs.declared.action.Seen.{Seen}
use Rattle.tc_filter.specs.Kinds.{after_those, kind_among, kind_heard}

-- a step of the walk that found an attribute
pub found-one : (s t : NlasIterator) (r : Result NlaBuffer Fault) (a : NlaBuffer) → r ≡ Ok a → Goes s (Some r) t → ahead s ≡ item a.place a.word a.value.now (ahead t)
found-one s t r a e g = (subst (λ (q : Result NlaBuffer Fault). Goes s (Some q) t) e g).0

-- what a text that was looked at reads as
placed_by : (p : ℕ) (r : Result (Bor Bytes) DecodeError) (b : Bool) (y : Bytes) → spelt r ≡ cond b (Ok y) (Err (lack 9 0)) → kind_heard (placed r p ActionAttribute) ≡ cond b (Ok y) (Err (fault 9 p 3))
placed_by p (Ok t) true y e = cc
placed_by p (Ok t) false y e = let z : ◌≡◌ {A = ℕ} 0 1 = cc in absurd (omega arith)
placed_by p (Err d) true y e = let z : ◌≡◌ {A = ℕ} 0 1 = cc in absurd (omega arith)
placed_by p (Err d) false y e =
    let q : lack (cause_number d.cause) d.need ≡ lack 9 0 = cc in
    ap (λ (k : Lack). Err (needing k.cause p 3 k.need)) q

module _ (p : ℕ) (x : Bytes) (r : Result (Bor Bytes) DecodeError) (q : Result (Bor Bytes) Fault) (e : spelt r ≡ text_in x) (s : q ≡ placed r p ActionAttribute) where
  text_is : text p 3 x ≡ kind_heard q
  text_is = sym (placed_by p r (is_text (stripped x)) (stripped x) e) ∙ ap kind_heard (sym s)

  pub text-bad : (f : Fault) → q ≡ Err f → text p 3 x ≡ Err (numbers f)
  text-bad f h = text_is ∙ ap kind_heard h

module _ (home : ℕ) (seen : Seen) where
  abbrev looked_at : Bool → Read Bytes → Read (List Bytes) → Read Bytes
  looked_at b q k = elim b [ true ↦ q >>= (λ t. k >>= λ l. Ok (t ∷ l)) | false ↦ k ] >>= after_those home seen

  bad_by : (b : Bool) (q : Read Bytes) (k : Read (List Bytes)) (f : FaultNumbers) → b ≡ true → q ≡ Err f → looked_at b q k ≡ Err f
  bad_by false q k f e h = let z : ◌≡◌ {A = ℕ} 0 1 = cc in absurd (omega arith)
  bad_by true (Err d) k f e h = cc
  bad_by true (Ok u) k f e h = let z : ◌≡◌ {A = ℕ} 0 1 = cc in absurd (omega arith)

  module _ (p w : ℕ) (x : Bytes) (r : Walked) (one : type_of w ≡ 1) where
    -- one that is no text is the answer
    pub kind-bad : (f : FaultNumbers) → text p 3 x ≡ Err f → kind_among home seen (item p w x r) ≡ Err f
    kind-bad f h = bad_by (eqb (type_of w) 1) (text p 3 x) (kinds r) f (eq-eqb (type_of w) 1 one) h
