-- The numbers of a row of attributes, attribute by attribute. Assumes nothing.
use Rattle.std.proofs.Common.{◌≡◌, ℕ, List, ◌∷◌, Some, Ok, Err, Result, sym, refl, ap, ◌∙◌, subst, add_assoc, arith}
use Rattle.model.specs.Numbers.{Bytes}
use Rattle.model.specs.Faults.{Read, ◌>>=◌}
use Rattle.model.specs.Walk.{Walked, item}
use Rattle.model.specs.Reading.{each}
use Rattle.model.specs.declared.fault.Fault.{Fault}
use Rattle.netlink.specs.Walking.{Goes}
use Rattle.filter.specs.declared.tally.Tally.{Tally}
use Rattle.filter.specs.declared.part.Part.{Part}
use Rattle.filter.specs.declared.part.Row.{Row}
use Rattle.filter.specs.Parts.{PartGoes}
use Rattle.filter.specs.Tallies.{joined}
use Rattle.filter.specs.Summaries.{Summary, Reader, one, total, tally_of, tally_behind}

pub joined_assoc : (s t u : Tally) → joined s (joined t u) ≡ joined (joined s t) u
joined_assoc s t u = λ i. record {
  items = sym (add_assoc s.items t.items u.items) i;
  actions = sym (add_assoc s.actions t.actions u.actions) i;
  action_options = sym (add_assoc s.action_options t.action_options u.action_options) i;
  length = sym (add_assoc s.length t.length u.length) i;
}

-- a step of the walk that found an attribute
pub found-one : (s t : Row) (r : Result Part Fault) (a : Part) → r ≡ Ok a → PartGoes s (Some r) t → Goes s.walk (Some (Ok a.nla)) t.walk
found-one s t r a e g = subst (λ (q : Result Part Fault). PartGoes s (Some q) t) e g

module _ (t : Tally) (layer : ℕ) (f : Reader) where
  more_by : (q : Read Summary) (k : Read (List Summary)) (x : Tally) → tally_of q ≡ Ok x →
      ((q >>= λ s. k >>= λ l. Ok (s ∷ l)) >>= λ l. Ok (joined t (total l))) ≡ (k >>= λ l. Ok (joined (joined t x) (total l)))
  more_by (Err e) k x h = let z : ◌≡◌ {A = ℕ} 0 1 = cc in absurd (omega arith)
  more_by (Ok s) (Err e) x h = refl
  more_by (Ok s) (Ok l) x h =
      let same : one s ≡ x = cc in
      ap (λ (u : Tally). Ok u) (joined_assoc t (one s) (total l) ∙ ap (λ (u : Tally). joined (joined t u) (total l)) same)

  module _ (p w : ℕ) (v : Bytes) (r : Walked) where
    -- one more
    pub tally-more : (x : Tally) → tally_of (f p w v) ≡ Ok x → tally_behind t layer f (item p w v r) ≡ tally_behind (joined t x) layer f r
    tally-more x h = more_by (f p w v) (each layer f r) x h
