-- A part written just before another. Assumes nothing.
use Rattle.std.proofs.Common.{◌≡◌, ℕ, ◌+◌, ◌-◌, ◌≤◌, ◌++◌, length, take, drop, sym, ap, ◌∙◌, arith}
use Rattle.std.proofs.lemmas.List.{append_assoc, length-append, length-take-le, take-append-le, take-take, drop_at}
use Rattle.model.specs.Numbers.{Bytes}
use Rattle.model.specs.Page.{over}

pub over-before : (bs : Bytes) (at : ℕ) (p q : Bytes) (n : ℕ) → n ≡ at + length p → n + length q ≤ length bs → over (over bs n q) at p ≡ over bs at (p ++ q)
over-before bs at p q n e h =
    let size : length (take n bs) ≡ n = length-take-le n bs (omega arith) in
    let short : length (take at bs) ≡ at = length-take-le at bs (omega arith) in
    let t : take at (over bs n q) ≡ take at bs = take-append-le at (take n bs) (q ++ drop (n + length q) bs) (omega arith) ∙ take-take at n bs (omega arith) in
    let d : drop (at + length p) (over bs n q) ≡ q ++ drop (n + length q) bs = ap (λ (k : ℕ). drop k (over bs n q)) (sym e) ∙ drop_at (take n bs) (q ++ drop (n + length q) bs) n size in
    let far : n + length q ≡ at + length (p ++ q) = omega (arith, length-append p q) in
    ap (λ (x : Bytes). x ++ (p ++ drop (at + length p) (over bs n q))) t
    ∙ ap (λ (x : Bytes). take at bs ++ (p ++ x)) d
    ∙ ap (λ (x : Bytes). take at bs ++ x) (sym (append_assoc p q (drop (n + length q) bs)))
    ∙ ap (λ (k : ℕ). take at bs ++ ((p ++ q) ++ drop k bs)) far
