-- What the one writer leaves of a page's memory, from the used length on. Assumes nothing.
use Rattle.std.proofs.Common.{◌≡◌, ℕ, ◌+◌, ◌-◌, ◌<◌, ◌≤◌, Bool, true, false, cond, ltb, ◌++◌, length, take, drop, Ok, Err, Result, refl, ap, ◌∙◌, arith}
use borrow.Rule.Slice.PartMut.{put_mid}
use Rattle.std.proofs.lemmas.List.{append-nil, length-drop, take_all, drop-drop, drop_all, take-append-drop}
use Rattle.std.proofs.lemmas.Bool.{ltb-false, ltb-true, cond-true, cond-false}
use Rattle.model.specs.Numbers.{Bytes}
use Rattle.model.specs.Attributes.{rounded, attribute, encode}
use Rattle.model.specs.Page.{over}
use Rattle.model.proofs.Walk.{length-encode}
use Rattle.netlink.specs.Emission.{attribute_form, emission, buffer_after}

-- the bytes from the used length on, as the checker has them
abbrev pub rest : Bytes → ℕ → Bytes
rest mem u = take (length mem - u) (drop u mem)

rest_is : (mem : Bytes) (u : ℕ) → rest mem u ≡ drop u mem
rest_is mem u = take_all (length mem - u) (drop u mem) (simp length-drop (omega arith))

pub length_rest : (mem : Bytes) (u : ℕ) → length (rest mem u) ≡ length mem - u
length_rest mem u = ap length (rest_is mem u) ∙ length-drop u mem

back : (mem last : Bytes) (u : ℕ) → put_mid u (length mem - u) mem last ≡ take u mem ++ last
back mem last u = ap (λ (r : Bytes). take u mem ++ (last ++ r)) (drop_all (length mem - u) (drop u mem) (simp length-drop (omega arith))) ∙ ap (λ (r : Bytes). take u mem ++ r) (append-nil last)

module _ (w : ℕ) (x : Bytes) (mem last : Bytes) (u : ℕ) where
  abbrev code : Bytes
  code = encode (attribute w x)

  abbrev form : Bool → Result Bytes ℕ
  form t = cond t (Err 15) (Ok code)

  -- how much was written, and what the memory holds then
  written_by : (t v : Bool) (n : ℕ) → ltb (length (rest mem u)) (length code) ≡ v → Ok n ≡ emission (length (rest mem u)) (form t) → last ≡ buffer_after (rest mem u) (form t) →
      (n ≡ length code) × (n ≤ length mem - u) × (last ≡ code ++ drop (length code) (drop u mem))
  written_by true v n e p q = let z : ◌≡◌ {A = ℕ} 0 1 = cc in absurd (omega arith)
  written_by false true n e p q = let k : ◌≡◌ {A = Result ℕ ℕ} (Ok n) (Err 16) = p ∙ cond-true (ltb (length (rest mem u)) (length code)) (Err 16) (Ok (length code)) e in let z : ◌≡◌ {A = ℕ} 0 1 = cc in absurd (omega arith)
  written_by false false n e p q =
      let k : ◌≡◌ {A = Result ℕ ℕ} (Ok n) (Ok (length code)) = p ∙ cond-false (ltb (length (rest mem u)) (length code)) (Err 16) (Ok (length code)) e in
      let size : n ≡ length code = cc in
      let room : length code ≤ length (rest mem u) = ltb-false (length (rest mem u)) (length code) e in
      let all : length (rest mem u) ≡ length mem - u = length_rest mem u in
      (size, omega arith, q ∙ cond-false (ltb (length (rest mem u)) (length code)) (rest mem u) (code ++ drop (length code) (rest mem u)) e ∙ ap (λ (r : Bytes). code ++ drop (length code) r) (rest_is mem u))

  pub appends : (n : ℕ) → Ok n ≡ emission (length (rest mem u)) (attribute_form w x) → last ≡ buffer_after (rest mem u) (attribute_form w x) →
      (n ≡ 4 + rounded (length x)) × (n ≤ length mem - u) × (put_mid u (length mem - u) mem last ≡ over mem u code)
  appends n p q =
      let k = written_by (ltb 65531 (length x)) (ltb (length (rest mem u)) (length code)) n refl p q in
      let size : length code ≡ rounded (4 + length x) = length-encode (attribute w x) in
      let first : n ≡ length code = k.0 in
      (omega arith, k.1, back mem last u ∙ ap (λ (r : Bytes). take u mem ++ r) (k.2 ∙ ap (λ (r : Bytes). code ++ r) (drop-drop (length code) u mem)))

  refused_by : (t v : Bool) (c : ℕ) → ltb 65531 (length x) ≡ t → ltb (length (rest mem u)) (length code) ≡ v → length mem ≤ 65531 → Err c ≡ emission (length (rest mem u)) (form t) → last ≡ buffer_after (rest mem u) (form t) →
      (length mem - u < 4 + rounded (length x)) × (last ≡ drop u mem)
  refused_by true v c d e s p q = let h : 65531 < length x = ltb-true 65531 (length x) d in (omega arith, q ∙ rest_is mem u)
  refused_by false true c d e s p q =
      let h : length (rest mem u) < length code = ltb-true (length (rest mem u)) (length code) e in
      let all : length (rest mem u) ≡ length mem - u = length_rest mem u in
      let size : length code ≡ rounded (4 + length x) = length-encode (attribute w x) in
      (omega arith, q ∙ cond-true (ltb (length (rest mem u)) (length code)) (rest mem u) (code ++ drop (length code) (rest mem u)) e ∙ rest_is mem u)
  refused_by false false c d e s p q = let k : ◌≡◌ {A = Result ℕ ℕ} (Err c) (Ok (length code)) = p ∙ cond-false (ltb (length (rest mem u)) (length code)) (Err 16) (Ok (length code)) e in let z : ◌≡◌ {A = ℕ} 0 1 = cc in absurd (omega arith)

  pub no_room : (c : ℕ) → length mem ≤ 65531 → Err c ≡ emission (length (rest mem u)) (attribute_form w x) → last ≡ buffer_after (rest mem u) (attribute_form w x) →
      (length mem - u < 4 + rounded (length x)) × (put_mid u (length mem - u) mem last ≡ mem)
  no_room c s p q =
      let k = refused_by (ltb 65531 (length x)) (ltb (length (rest mem u)) (length code)) c refl refl s p q in
      (k.0, back mem last u ∙ ap (λ (r : Bytes). take u mem ++ r) k.1 ∙ take-append-drop u mem)
