-- A number of eight bytes by its halves. Assumes nothing.
use Rattle.std.proofs.Common.{◌≡◌, ℕ, ◌+◌, ◌-◌, ◌*◌, ◌≤◌, [], ◌∷◌, length, take, drop, sym, ap, ◌∙◌, arith, length-drop}
use Rattle.std.proofs.lemmas.List.{drop-drop}
use Rattle.model.specs.Numbers.{Bytes, number, le}

halves : (bs : Bytes) → 4 ≤ length bs → number (take 4 bs) + number (take 4 (drop 4 bs)) * 4294967296 ≡ number (take 8 bs)
halves [] h = absurd (omega arith)
halves (a ∷ []) h = absurd (omega arith)
halves (a ∷ b ∷ []) h = absurd (omega arith)
halves (a ∷ b ∷ c ∷ []) h = absurd (omega arith)
halves (a ∷ b ∷ c ∷ d ∷ bs) h = omega arith

pub le_eight : (i : ℕ) (bs : Bytes) → i + 8 ≤ length bs → le i 4 bs + le (i + 4) 4 bs * 4294967296 ≡ le i 8 bs
le_eight i bs h =
    let long : length (drop i bs) ≡ length bs - i = length-drop i bs in
    ap (λ (x : Bytes). le i 4 bs + number (take 4 x) * 4294967296) (sym (drop-drop 4 i bs)) ∙ halves (drop i bs) (omega arith)
