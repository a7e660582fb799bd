-- What a payload reads as, at its place, is what the model reads. Assumes nothing.
use Rattle.std.proofs.Common.{◌≡◌, ℕ, Bool, true, false, cond, eqb, ltb, length, Ok, Err, refl, ap, arith, eqb-true}
use Rattle.std.proofs.lemmas.List.{take_all}
use Rattle.model.specs.Numbers.{Bytes, number, le}
use Rattle.model.specs.Faults.{fault, needing, Read, ◌>>=◌}
use Rattle.model.specs.Text.{is_text, stripped}
use Rattle.model.specs.Selector.{Selector, wanted, decode}
use Rattle.model.specs.Reading.{u32, text, read_selector}
use Rattle.payload.specs.Errors.{lack}
use Rattle.payload.specs.Payloads.{exactly}
use Rattle.payload.specs.Texts.{text_in}
use Rattle.tc_records.specs.Selectors.{selector_in}
use Rattle.tc_options.specs.Carried.{carried}
use Rattle.tc_filter.specs.Places.{at_place}

module _ {A B : Type 0} (p l : ℕ) (x : Bytes) (f : ℕ → A) (g : A → Read B) where
  number_by : (b : Bool) → eqb (length x) 4 ≡ b →
      (at_place p l (carried f (cond b (Ok (le 0 4 x)) (Err (lack 12 4)))) >>= g) ≡ (cond b (Ok (number x)) (Err (needing 12 p l 4)) >>= λ n. g (f n))
  number_by true e =
      let four : length x ≡ 4 = eqb-true (length x) 4 e in
      ap (λ (y : Bytes). g (f (number y))) (take_all 4 x (omega arith))
  number_by false e = refl

  -- a number of four bytes
  pub number-reads : (at_place p l (carried f (exactly 4 (le 0 4) x)) >>= g) ≡ (u32 p l x >>= λ n. g (f n))
  number-reads = number_by (eqb (length x) 4) refl

module _ {A B : Type 0} (p : ℕ) (x : Bytes) (f : Bytes → A) (g : A → Read B) where
  text_by : (b : Bool) → (at_place p 3 (carried f (cond b (Ok (stripped x)) (Err (lack 9 0)))) >>= g) ≡ (cond b (Ok (stripped x)) (Err (fault 9 p 3)) >>= λ t. g (f t))
  text_by true = refl
  text_by false = refl

  -- a kind text
  pub text-reads : (at_place p 3 (carried f (text_in x)) >>= g) ≡ (text p 3 x >>= λ t. g (f t))
  text-reads = text_by (is_text (stripped x))

module _ {A B : Type 0} (p : ℕ) (x : Bytes) (f : Selector → A) (g : A → Read B) where
  selector_by : (a b : Bool) →
      (at_place p 1 (carried f (cond a (Err (lack 13 16)) (cond b (Err (lack 13 (wanted x))) (Ok (decode x))))) >>= g)
      ≡ (cond a (Err (needing 13 p 1 16)) (cond b (Err (needing 13 p 1 (wanted x))) (Ok (decode x))) >>= λ s. g (f s))
  selector_by true b = refl
  selector_by false true = refl
  selector_by false false = refl

  -- a selector
  pub selector-reads : (at_place p 1 (carried f (selector_in x)) >>= g) ≡ (read_selector p x >>= λ s. g (f s))
  selector-reads = selector_by (ltb (length x) 16) (ltb (length x) (wanted x))
