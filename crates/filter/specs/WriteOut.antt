-- What writing out a whole filter answers, and what comparing two answers. Assumes nothing.
use Rattle.std.specs.Prelude.{ℕ, Bool, cond, length, Ok, Err, Result, nat_lt}
use Rattle.std.specs.Str.{bytes_eq}
use Rattle.model.specs.Numbers.{Bytes}
use Rattle.model.specs.Faults.{FaultNumbers, fault, numbers, Read, ◌>>=◌}
use Rattle.model.specs.Walk.{Walked, done, bad, item, walk}
use Rattle.model.specs.Book.{Meaning}
use Rattle.model.specs.Reading.{read_filter}
use Rattle.model.specs.Writing.{written, fitting, write_out, output_after}
use Rattle.filter.specs.Summaries.{Summary, Reader}
use Rattle.filter.specs.declared.sameness.Unwritten.{Unwritten}
use Rattle.filter.specs.declared.sameness.Which.{Which}
use Rattle.filter.specs.declared.sameness.Which.TheVariants.{First, Second}

abbrev pub payload_length : Read Summary → Read ℕ
payload_length r = r >>= λ s. Ok (length s.written.payload)

-- every option that is walked over reads, and its length field can tell its length; 15 at the first that outgrows it
abbrev pub lengths_checked : Reader → Walked → Read (Unit {0})
lengths_checked f done = Ok tt
lengths_checked f (bad c p) = Err (fault c p 1)
lengths_checked f (item p w x r) = payload_length (f p w x) >>= λ n. cond (nat_lt 65531 n) (Err (fault 15 p 1)) (lengths_checked f r)

-- the length of the written form, where the filter reads and its options fit their length fields
abbrev pub written_length : Meaning → Bytes → Read ℕ
written_length m bs = read_filter m bs >>= λ r. fitting (walk 0 bs) r >>= λ _. Ok (length (written r))

-- writing out answers the length of what it wrote
abbrev pub length_out : Meaning → (free : ℕ) → Bytes → Read ℕ
length_out m free bs = write_out m free bs >>= λ x. Ok (length x)

-- ── two filters ──
-- whether two filters are written alike, or which of them is not written, and why
pub data Comparison : Type 0 where
  alike : Bool → Comparison
  first_not : FaultNumbers → Comparison
  second_not : FaultNumbers → Comparison

abbrev pub with_second : Bytes → Read Bytes → Comparison
with_second x (Ok y) = alike (bytes_eq x y)
with_second x (Err e) = second_not e

abbrev pub with_first : Read Bytes → Read Bytes → Comparison
with_first (Ok x) r = with_second x r
with_first (Err e) r = first_not e

abbrev pub compared : Meaning → (free free' : ℕ) → Bytes → Bytes → Comparison
compared m free free' bs cs = with_first (write_out m free bs) (write_out m free' cs)

abbrev pub refusal_of : Which → FaultNumbers → Comparison
refusal_of First e = first_not e
refusal_of Second e = second_not e

abbrev pub comparison : Result Bool Unwritten → Comparison
comparison (Ok t) = alike t
comparison (Err u) = refusal_of u.which (numbers u.fault)

-- the second output is written only where the first filter is
abbrev pub behind_first : Read Bytes → (old new : Bytes) → Bytes
behind_first (Ok x) old new = new
behind_first (Err e) old new = old

abbrev pub second_after : Meaning → (free : ℕ) → (bs output cs : Bytes) → Bytes
second_after m free bs output cs = behind_first (write_out m free bs) output (output_after m output cs)
