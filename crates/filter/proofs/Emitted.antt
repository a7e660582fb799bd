-- What is written at the front of the output behind a place, seen from the whole output. Assumes nothing.
use Rattle.std.proofs.Common.{◌≡◌, ℕ, ◌+◌, ◌-◌, ◌≤◌, [], ◌++◌, length, take, drop, ap, ◌∙◌, arith, length-drop}
use borrow.Rule.Slice.PartMut.{put_mid}
use Rattle.std.proofs.lemmas.List.{append-nil, drop_all, drop-drop, take_rest}
use Rattle.model.specs.Numbers.{Bytes}
use Rattle.model.specs.Page.{over}
use Rattle.filter.specs.Writes.{at_front}

-- the bytes behind a place are borrowed, and written at their front
pub behind_over : (out : Bytes) (at : ℕ) (form last : Bytes) → last ≡ at_front (take (length out - at) (drop at out)) form → at ≤ length out → put_mid at (length out - at) out last ≡ over out at form
behind_over out at form last e h =
    let behind : take (length out - at) (drop at out) ≡ drop at out = take_rest out at in
    let size : length (drop at out) ≡ length out - at = length-drop at out in
    let none : drop (length out - at) (drop at out) ≡ [] = drop_all (length out - at) (drop at out) (omega arith) in
    ap (put_mid at (length out - at) out) (e ∙ ap (λ (b : Bytes). form ++ drop (length form) b) behind ∙ ap (λ (b : Bytes). form ++ b) (drop-drop (length form) at out))
    ∙ ap (λ (b : Bytes). take at out ++ ((form ++ drop (at + length form) out) ++ b)) none
    ∙ ap (λ (b : Bytes). take at out ++ b) (append-nil (form ++ drop (at + length form) out))
