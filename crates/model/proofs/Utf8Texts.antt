-- The grammar of RFC 3629 is the standard library's UTF-8, the encodings of scalar values one after another. Assumes nothing.
use Rattle.std.proofs.Common.{◌≡◌, ℕ, ◌+◌, ◌/◌, ◌<◌, ◌≤◌, true, ◌⊎◌, List, [], ◌∷◌, IsUtf8, sym, refl, subst, inl, inr, arith}
use lib.Utf8.{encode, encodes, scalar, scalars, scalar_cases, next}
use Rattle.std.proofs.lemmas.Bool.Decides.{nat_tests}
use Rattle.std.proofs.lemmas.Str.{IsUtf8-append, IsUtf8-nil}
use Rattle.std.proofs.lemmas.Bool.{cases_lt, and_parts}
use Rattle.std.below.core.proofs.str.Valid.{of_one, of_two, of_three, of_four}
use Rattle.std.below.core.proofs.str.Laws as laws
use Rattle.model.specs.Numbers.{Bytes}
use Rattle.model.specs.Text.{Character, one, two, three, four, Text, empty, more, GrammarIsUtf8}
use Rattle.model.proofs.Texts.{test_is_grammar}

-- from the grammar: the narrowed ranges leave out what is overlong, a surrogate or too large
character_utf8 : {c : Bytes} → Character c → IsUtf8 c
character_utf8 (one a e) = of_one (a ∷ []) 0 (omega arith) (grind (arith, nat_tests))
character_utf8 (two a b e i) = of_two (a ∷ b ∷ []) 0 (omega arith) (grind (arith, nat_tests)) (grind (arith, nat_tests))
character_utf8 (three a b c e i j) =
    of_three (a ∷ b ∷ c ∷ []) 0 (omega arith) (grind (arith, nat_tests)) (grind (arith, nat_tests)) (grind (arith, nat_tests)) (grind (arith, nat_tests)) (grind (arith, nat_tests))
character_utf8 (four a b c d e i j k) =
    of_four (a ∷ b ∷ c ∷ d ∷ []) 0 (omega arith) (grind (arith, nat_tests)) (grind (arith, nat_tests)) (grind (arith, nat_tests)) (grind (arith, nat_tests)) (grind (arith, nat_tests))

text_utf8 : {bs : Bytes} → Text bs → IsUtf8 bs
text_utf8 empty = IsUtf8-nil
text_utf8 (more c r bs ch tx e) = subst IsUtf8 (sym e) (IsUtf8-append c r (character_utf8 ch) (text_utf8 tx))

-- and back: what a scalar value is encoded by is a character
encoded : (c : ℕ) → (c < 55296) ⊎ ((57344 ≤ c) × (c < 1114112)) → (c < 128) ⊎ (128 ≤ c) → (c < 2048) ⊎ (2048 ≤ c) → (c < 65536) ⊎ (65536 ≤ c) → Character (encode c)
encoded c s (inl h) _ _ = subst Character (sym (laws.one c h)) (one c (grind (arith, nat_tests)))
encoded c s (inr l) (inl h) _ = subst Character (sym (laws.two c l h)) (two (192 + c / 64) (next c) (grind (arith, nat_tests)) (grind (arith, nat_tests)))
encoded c s (inr _) (inr l) (inl h) = subst Character (sym (laws.three c l h)) (three (224 + c / 4096) (next (c / 64)) (next c) (grind (arith, nat_tests)) (grind (arith, nat_tests)) (omega arith, omega arith))
encoded c s (inr _) (inr _) (inr l) =
    subst Character (sym (laws.four c l)) (four (240 + c / 262144) (next (c / 4096)) (next (c / 64)) (next c) (grind (arith, nat_tests)) (grind (arith, nat_tests)) (omega arith, omega arith) (omega arith, omega arith))

encodes_text : (cs : List ℕ) → scalars cs ≡ true → Text (encodes cs)
encodes_text [] s = empty
encodes_text (c ∷ cs) s =
    let p = and_parts (scalar c) (scalars cs) s in
    more (encode c) (encodes cs) (encodes (c ∷ cs)) (encoded c (scalar_cases c p.0) (cases_lt c 128) (cases_lt c 2048) (cases_lt c 65536)) (encodes_text cs p.1) refl

utf8_text : {bs : Bytes} → IsUtf8 bs → Text bs
utf8_text u = subst Text u.1.1 (encodes_text u.0 u.1.0)

pub grammar_is_utf8 : GrammarIsUtf8
grammar_is_utf8 bs = let g = test_is_grammar bs in (text_utf8, utf8_text, λ t. text_utf8 (g.0 t), λ u. g.1 (utf8_text u))
