-- Writing a row of attributes, attribute by attribute, and what stands around it. Assumes nothing.
use Rattle.std.proofs.Common.{◌≡◌, ℕ, ◌+◌, ◌-◌, ◌≤◌, List, [], ◌∷◌, ◌++◌, map, length, replicate, Ok, Err, sym, refl, ap, ◌∙◌, subst, arith}
use Rattle.std.specs.List.{AllByRecursion}
use Rattle.std.proofs.lemmas.List.{append-nil, length-append}
use Rattle.model.specs.Numbers.{Bytes}
use Rattle.model.specs.Attributes.{rounded, attribute, encode, head}
use Rattle.model.specs.Faults.{Read, ◌>>=◌}
use Rattle.model.specs.Page.{over}
use Rattle.netlink.proofs.Overwrites.{over-over}
use Rattle.filter.specs.declared.tally.Tally.{Tally}
use Rattle.filter.specs.Summaries.{Summary}
use Rattle.filter.specs.Nests.{written_row, around}
use Rattle.filter.specs.Writes.{Short, RoomFor, form_of, RoomForRow, row_form, RoomAround, form_around}
use Rattle.filter.proofs.Lengths.{length-encode, length-row}

abbrev pub behind : Read Summary → Read (List Summary) → Read (List Summary)
behind q k = q >>= λ s. k >>= λ l. Ok (s ∷ l)

-- what holds when one of a row is written behind a place, and then the rest
pub record Step (q : Read Summary) (k : Read (List Summary)) (out : Bytes) (at : ℕ) : Type 0 where
  pub room : RoomFor q (length out - at)
  pub fits : at + length (form_of q) ≤ length out
  pub rest : RoomForRow k (length out - (at + length (form_of q)))
  pub bytes : over (over out at (form_of q)) (at + length (form_of q)) (row_form k) ≡ over out at (row_form (behind q k))
  pub ends : (at + length (form_of q)) + length (row_form k) ≡ at + length (row_form (behind q k))

pub step : (q : Read Summary) (k : Read (List Summary)) (out : Bytes) (at : ℕ) → at ≤ length out → RoomForRow (behind q k) (length out - at) → Step q k out at
step (Err e) k out at i h = absurd h
step (Ok s) (Err e) out at i h = absurd h
step (Ok s) (Ok l) out at i h =
    let size : length (encode s.written ++ written_row l) ≡ length (encode s.written) + length (written_row l) = length-append (encode s.written) (written_row l) in
    let fits = h.1 in
    record {
      room = (h.0.0, omega arith);
      fits = omega arith;
      rest = (h.0.1, omega arith);
      bytes = over-over out at (encode s.written) (written_row l) (at + length (encode s.written)) refl i;
      ends = omega arith;
    }

-- where a row fits into a length field, each of it does
pub row_short : (l : List Summary) → length (written_row l) ≤ 65531 → AllByRecursion Short l
row_short [] h = tt
row_short (s ∷ l) h =
    let size : length (encode s.written ++ written_row l) ≡ length (encode s.written) + length (written_row l) = length-append (encode s.written) (written_row l) in
    let one = length-encode s.written in
    (omega arith, row_short l (omega arith))

pub room_inside : (k : Read (List Summary)) (n : ℕ) → RoomAround k n → RoomForRow k (n - 4)
room_inside (Ok l) n h = let fits = h.1 in (row_short l h.0, omega arith)
room_inside (Err e) n h = absurd h

-- an attribute around a row: its room, and its bytes
module _ (w : ℕ) (α β : Tally → ℕ) (q : Read Summary) (n : ℕ) where
  abbrev around_it : Read (List Summary) → Read Summary
  around_it k = k >>= λ l. Ok (around w α β l)

  pub room_around : (k : Read (List Summary)) → around_it k ≡ q → RoomFor q n → RoomAround k n
  room_around (Ok l) e h =
      let r = subst (λ (y : Read Summary). RoomFor y n) (sym e) h in
      let long = length-encode (attribute w (written_row l)) in
      let whole = length-row (map (λ (s : Summary). s.written) l) in
      (r.0, omega (arith, r.1))
  room_around (Err f) e h = absurd (subst (λ (y : Read Summary). RoomFor y n) (sym e) h)

  pub form-around_it : (k : Read (List Summary)) → around_it k ≡ q → RoomFor q n → form_around w k ≡ form_of q
  form-around_it (Ok l) e h =
      let row = written_row l in
      let whole : rounded (length row) - length row ≡ 0 = omega (arith, length-row (map (λ (s : Summary). s.written) l)) in
      sym (ap (λ (i : ℕ). head (4 + length row) w ++ (row ++ replicate i 0)) whole ∙ ap (λ (r : Bytes). head (4 + length row) w ++ r) (append-nil row)) ∙ ap form_of e
  form-around_it (Err f) e h = absurd (subst (λ (y : Read Summary). RoomFor y n) (sym e) h)
