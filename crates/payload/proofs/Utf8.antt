-- What the test for UTF-8 decides. Assumes nothing.
use Rattle.std.proofs.Common.{◌≡◌, Bool, true, false, T, IsUtf8, Decides, sym, refl, ◌∙◌, subst}
use Rattle.model.specs.Numbers.{Bytes}
use Rattle.model.specs.Text.{is_text}
use Rattle.model.proofs.Utf8Texts.{grammar_is_utf8}

is_true : (b : Bool) → T b → b ≡ true
is_true true t = refl
is_true false t = absurd t

pub decided : (r : Bool) (bs : Bytes) → r ≡ is_text bs → Decides r (IsUtf8 bs)
decided r bs e = ((λ q. (grammar_is_utf8 bs).2 (subst T (sym q ∙ e) tt)), (λ u. e ∙ is_true (is_text bs) ((grammar_is_utf8 bs).3 u)))
