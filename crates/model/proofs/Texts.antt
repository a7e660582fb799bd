-- The test for UTF-8 is the grammar of RFC 3629. Assumes nothing.
use Rattle.std.proofs.Common.{◌≡◌, ℕ, zero, suc, ◌≤◌, Bool, true, false, ◌&&◌, T, leb, [], ◌∷◌, ◌++◌, length, sym, refl, subst, arith, le→leb, leb→le}
use Rattle.std.proofs.lemmas.Bool.Decides.{nat_tests}
use Rattle.model.specs.Numbers.{Bytes}
use Rattle.model.specs.Text.{first_length, low, high, In, Character, one, two, three, four, Text, empty, more, test, TestIsGrammar}

both_of : (a b : Bool) → T (a && b) → T a × T b
both_of true b t = (tt, t)
both_of false b t = absurd t

and_of : (a b : Bool) → T a → T b → T (a && b)
and_of true b s t = t
and_of false b s t = absurd s

-- a byte of a character that is not its first
inner : (lo hi b left : ℕ) (bs : Bytes) → T (test (suc left) lo hi (b ∷ bs)) → In lo hi b × T (test left 0x80 0xBF bs)
inner lo hi b left bs t =
    let g = both_of (leb lo b && leb b hi) (test left 0x80 0xBF bs) t in
    let h = both_of (leb lo b) (leb b hi) g.0 in
    ((leb→le lo b h.0, leb→le b hi h.1), g.1)

outer : (lo hi b left : ℕ) (bs : Bytes) → In lo hi b → T (test left 0x80 0xBF bs) → T (test (suc left) lo hi (b ∷ bs))
outer lo hi b left bs i t = and_of (leb lo b && leb b hi) (test left 0x80 0xBF bs) (and_of (leb lo b) (leb b hi) (le→leb lo b i.0) (le→leb b hi i.1)) t

-- between characters the range is not looked at
between : (lo hi lo' hi' : ℕ) (bs : Bytes) → T (test 0 lo hi bs) → T (test 0 lo' hi' bs)
between lo hi lo' hi' [] t = t
between lo hi lo' hi' (b ∷ bs) t = t

-- the first byte
lead : (lo hi b n : ℕ) (bs : Bytes) → first_length b ≡ suc n → T (test n (low b) (high b) bs) → T (test 0 lo hi (b ∷ bs))
lead lo hi b n bs e t = rw (e, test) t

known : (b n : ℕ) → first_length b ≡ n → n ≤ 4
known b n e = grind (arith, nat_tests)

-- from the test to the grammar
follows : (lo hi b n : ℕ) (bs : Bytes) → first_length b ≡ suc n → T (test 0 lo hi (b ∷ bs)) → T (test n (low b) (high b) bs)
follows lo hi b n bs e t = rw (e, test) at t

none_starts : (lo hi b : ℕ) (bs : Bytes) → first_length b ≡ 0 → T (test 0 lo hi (b ∷ bs)) → ⊥
none_starts lo hi b bs e t = rw (e, test) at t

module _ (n : ℕ) (rec : (r : Bytes) → length r ≤ n → T (test 0 0 0 r) → Text r) where
  of_two : (a : ℕ) (bs : Bytes) → length bs ≤ n → first_length a ≡ 2 → T (test 1 (low a) (high a) bs) → Text (a ∷ bs)
  of_two a [] h e t = absurd t
  of_two a (b ∷ r) h e t =
      let i = inner (low a) (high a) b 0 r t in
      more (a ∷ b ∷ []) r (a ∷ b ∷ r) (two a b e i.0) (rec r (omega arith) (between 0x80 0xBF 0 0 r i.1)) refl

  of_three : (a : ℕ) (bs : Bytes) → length bs ≤ n → first_length a ≡ 3 → T (test 2 (low a) (high a) bs) → Text (a ∷ bs)
  of_three a [] h e t = absurd t
  of_three a (b ∷ []) h e t = absurd (inner (low a) (high a) b 1 [] t).1
  of_three a (b ∷ c ∷ r) h e t =
      let i = inner (low a) (high a) b 1 (c ∷ r) t in
      let j = inner 0x80 0xBF c 0 r i.1 in
      more (a ∷ b ∷ c ∷ []) r (a ∷ b ∷ c ∷ r) (three a b c e i.0 j.0) (rec r (omega arith) (between 0x80 0xBF 0 0 r j.1)) refl

  of_four : (a : ℕ) (bs : Bytes) → length bs ≤ n → first_length a ≡ 4 → T (test 3 (low a) (high a) bs) → Text (a ∷ bs)
  of_four a [] h e t = absurd t
  of_four a (b ∷ []) h e t = absurd (inner (low a) (high a) b 2 [] t).1
  of_four a (b ∷ c ∷ []) h e t = absurd (inner 0x80 0xBF c 1 [] (inner (low a) (high a) b 2 (c ∷ []) t).1).1
  of_four a (b ∷ c ∷ d ∷ r) h e t =
      let i = inner (low a) (high a) b 2 (c ∷ d ∷ r) t in
      let j = inner 0x80 0xBF c 1 (d ∷ r) i.1 in
      let k = inner 0x80 0xBF d 0 r j.1 in
      more (a ∷ b ∷ c ∷ d ∷ []) r (a ∷ b ∷ c ∷ d ∷ r) (four a b c d e i.0 j.0 k.0) (rec r (omega arith) (between 0x80 0xBF 0 0 r k.1)) refl

  starts : (a : ℕ) (bs : Bytes) → length bs ≤ n → (k : ℕ) → first_length a ≡ k → T (test 0 0 0 (a ∷ bs)) → Text (a ∷ bs)
  starts a bs h zero e t = absurd (none_starts 0 0 a bs e t)
  starts a bs h (suc zero) e t = more (a ∷ []) bs (a ∷ bs) (one a e) (rec bs h (between (low a) (high a) 0 0 bs (follows 0 0 a 0 bs e t))) refl
  starts a bs h (suc (suc zero)) e t = of_two a bs h e (follows 0 0 a 1 bs e t)
  starts a bs h (suc (suc (suc zero))) e t = of_three a bs h e (follows 0 0 a 2 bs e t)
  starts a bs h (suc (suc (suc (suc zero)))) e t = of_four a bs h e (follows 0 0 a 3 bs e t)
  starts a bs h (suc (suc (suc (suc (suc k))))) e t = let z : suc (suc (suc (suc (suc k)))) ≤ 4 = known a (suc (suc (suc (suc (suc k))))) e in absurd (omega arith)

reads : (n : ℕ) (bs : Bytes) → length bs ≤ n → T (test 0 0 0 bs) → Text bs
reads zero [] h t = empty
reads (suc n) [] h t = empty
reads zero (a ∷ bs) h t = absurd (omega arith)
reads (suc n) (a ∷ bs) h t = starts n (reads n) a bs (omega arith) (first_length a) refl t

-- and back
passes : (c r : Bytes) → Character c → T (test 0 0 0 r) → T (test 0 0 0 (c ++ r))
passes c r (one a e) t = lead 0 0 a 0 r e (between 0 0 (low a) (high a) r t)
passes c r (two a b e i) t = lead 0 0 a 1 (b ∷ r) e (outer (low a) (high a) b 0 r i (between 0 0 0x80 0xBF r t))
passes c r (three a b c' e i j) t = lead 0 0 a 2 (b ∷ c' ∷ r) e (outer (low a) (high a) b 1 (c' ∷ r) i (outer 0x80 0xBF c' 0 r j (between 0 0 0x80 0xBF r t)))
passes c r (four a b c' d e i j k) t = lead 0 0 a 3 (b ∷ c' ∷ d ∷ r) e (outer (low a) (high a) b 2 (c' ∷ d ∷ r) i (outer 0x80 0xBF c' 1 (d ∷ r) j (outer 0x80 0xBF d 0 r k (between 0 0 0x80 0xBF r t))))

written : (bs : Bytes) → Text bs → T (test 0 0 0 bs)
written bs empty = tt
written bs (more c r b ch tx e) = subst (λ (x : Bytes). T (test 0 0 0 x)) (sym e) (passes c r ch (written r tx))

pub test_is_grammar : TestIsGrammar
test_is_grammar bs = (reads (length bs) bs (omega arith), written bs)
