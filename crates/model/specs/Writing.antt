-- The written form of a reading, and when writing out is refused. Assumes nothing.
use Rattle.std.specs.Prelude.{◌≡◌, ℕ, ◌+◌, ◌*◌, ◌≤◌, cond, [], ◌∷◌, ◌++◌, map, length, take, drop, Ok, Err, nat_lt, slice_index}
use Rattle.model.specs.Numbers.{Bytes, le_bytes}
use Rattle.model.specs.Faults.{FaultNumbers, fault, Read, ◌>>=◌}
use Rattle.model.specs.Attributes.{Attribute, attribute, encode_all}
use Rattle.model.specs.Walk.{Walked, done, bad, item, walk}
use Rattle.model.specs.Book.{Meaning}
use Rattle.model.specs.Reading.{ActionAttribute, kind, options, index, stats, cookie, in_hw_count, other, Action, FilterOption, class_id, hash, link, divisor, selector, police, actions, indev, pcnt, mark, flags, default, Reading, read_filter}
use Rattle.model.specs.Selector as selectors

abbrev pub write_attribute : ActionAttribute → Attribute
write_attribute (kind t) = attribute 1 (t ++ 0 ∷ [])
write_attribute (options l) = attribute 0x8002 (encode_all l)
write_attribute (index n) = attribute 3 (le_bytes 4 n)
write_attribute (stats x) = attribute 4 x
write_attribute (cookie x) = attribute 6 x
write_attribute (in_hw_count n) = attribute 10 (le_bytes 4 n)
write_attribute (other w x) = attribute w x

abbrev pub write_action : Action → Attribute
write_action a = attribute a.tab (encode_all (map write_attribute a.attributes))

abbrev pub write_option : FilterOption → Attribute
write_option (class_id major minor) = attribute 1 (le_bytes 4 (major * 65536 + minor))
write_option (hash n) = attribute 2 (le_bytes 4 n)
write_option (link n) = attribute 3 (le_bytes 4 n)
write_option (divisor n) = attribute 4 (le_bytes 4 n)
write_option (selector s) = attribute 5 (selectors.encode s)
write_option (police x) = attribute 6 x
write_option (actions l) = attribute 7 (encode_all (map write_action l))
write_option (indev x) = attribute 8 x
write_option (pcnt x) = attribute 9 x
write_option (mark x) = attribute 10 x
write_option (flags n) = attribute 11 (le_bytes 4 n)
write_option (default w x) = attribute w x

-- the written form
abbrev pub written : Reading → Bytes
written r = encode_all (map write_option r)

-- 15 at the first option whose written payload is too long: only one of type 7 can be
abbrev pub fitting : Walked → Reading → Read (Unit {0})
fitting done r = Ok tt
fitting (bad c p) r = Ok tt
fitting (item p w x rest) [] = Ok tt
fitting (item p w x rest) (o ∷ r) = cond (nat_lt 65531 (length (write_option o).payload)) (Err (fault 15 p 1)) (fitting rest r)

-- writing out into memory with this many bytes free
abbrev pub write_out : Meaning → (free : ℕ) → Bytes → Read Bytes
write_out m free bs =
    read_filter m bs >>= λ r. fitting (walk 0 bs) r >>= λ _.
    cond (nat_lt free (length (written r))) (Err (fault 16 0 1)) (Ok (written r))

-- what the output holds afterwards: the written form and then the rest of the old output; all of the old on a refusal
abbrev pub written_over : (output : Bytes) → Read Bytes → Bytes
written_over output (Ok x) = x ++ drop (length x) output
written_over output (Err e) = output

abbrev pub output_after : Meaning → (output : Bytes) → Bytes → Bytes
output_after m output bs = written_over output (write_out m (length output) bs)

-- the output keeps its length, holds just what was written at its front and keeps what is beyond, and after a refusal it is as it was
pub record OutputKeepsTheRest : Type 0 where
  pub size : (m : Meaning) (output bs : Bytes) → length (output_after m output bs) ≡ length output
  pub front : (m : Meaning) (output bs x : Bytes) → write_out m (length output) bs ≡ Ok x → take (length x) (output_after m output bs) ≡ x
  pub beyond : (m : Meaning) (output bs x : Bytes) (i : ℕ) → write_out m (length output) bs ≡ Ok x → length x ≤ i → slice_index (output_after m output bs) i ≡ slice_index output i
  pub untouched : (m : Meaning) (output bs : Bytes) (e : FaultNumbers) → write_out m (length output) bs ≡ Err e → output_after m output bs ≡ output
