-- A book judges action options: it says what is written of an option, or refuses it. Assumes nothing.
use Rattle.std.specs.Prelude.{◌≡◌, ℕ, ◌<◌, ◌≤◌, Bool, true, false, cond, length, ◌==◌}
use Rattle.model.specs.Numbers.{Bytes, Octets}

-- the word and payload that are written, or a refusal of two numbers
pub data Answer : Type 0 where
  accept : (word : ℕ) (payload : Bytes) → Answer
  refuse : (number need : ℕ) → Answer

-- a book's meaning: what it answers for a kind text, a word and a payload
abbrev pub Meaning : Type 0
Meaning = Bytes → ℕ → Bytes → Answer

pub record BookLaws (m : Meaning) : Type 0 where
  -- the written payload is no longer than the payload
  pub shorter : (k : Bytes) (w : ℕ) (x : Bytes) (w' : ℕ) (x' : Bytes) → m k w x ≡ accept w' x' → length x' ≤ length x
  -- what is written is, under the same kind, accepted and written as itself
  pub settled : (k : Bytes) (w : ℕ) (x : Bytes) (w' : ℕ) (x' : Bytes) → m k w x ≡ accept w' x' → m k w' x' ≡ accept w' x'
  -- what is written is a word and bytes; a refusal's number is 1 to 255
  pub word16 : (k : Bytes) (w : ℕ) (x : Bytes) (w' : ℕ) (x' : Bytes) → w < 65536 → m k w x ≡ accept w' x' → w' < 65536
  pub octets : (k : Bytes) (w : ℕ) (x : Bytes) (w' : ℕ) (x' : Bytes) → Octets x → m k w x ≡ accept w' x' → Octets x'
  pub numbered : (k : Bytes) (w : ℕ) (x : Bytes) (n need : ℕ) → m k w x ≡ refuse n need → (1 ≤ n) × (n ≤ 255)

-- ── the two calls ──
-- the first answers the written word and the payload's length, or the refusal
pub data Judgement : Type 0 where
  written_as : (word length : ℕ) → Judgement
  refused_by : (number need : ℕ) → Judgement

abbrev pub judgement : Answer → Judgement
judgement (accept w x) = written_as w (length x)
judgement (refuse n need) = refused_by n need

-- the second writes the payload into memory of just that length; other memory, or a refused option, gets a no and is untouched
abbrev pub writes : Answer → (memory : Bytes) → Bool
writes (accept w x) mem = length x == length mem
writes (refuse n need) mem = false

abbrev pub memory_after_writing : Answer → (memory : Bytes) → Bytes
memory_after_writing (accept w x) mem = cond (length x == length mem) x mem
memory_after_writing (refuse n need) mem = mem

-- memory of the length that the first call tells is filled by the second, with what the book then accepts as it is; any other is kept
pub record CallsAgree (m : Meaning) : Type 0 where
  pub filled : (k : Bytes) (w : ℕ) (x : Bytes) (w' n : ℕ) (mem : Bytes) → judgement (m k w x) ≡ written_as w' n → length mem ≡ n →
      (writes (m k w x) mem ≡ true) × (length (memory_after_writing (m k w x) mem) ≡ n)
      × (m k w' (memory_after_writing (m k w x) mem) ≡ accept w' (memory_after_writing (m k w x) mem))
  pub kept : (k : Bytes) (w : ℕ) (x mem : Bytes) → writes (m k w x) mem ≡ false → memory_after_writing (m k w x) mem ≡ mem
  pub other_length : (k : Bytes) (w : ℕ) (x : Bytes) (w' n : ℕ) (mem : Bytes) → judgement (m k w x) ≡ written_as w' n → ¬ (length mem ≡ n) → writes (m k w x) mem ≡ false
  pub refusal : (k : Bytes) (w : ℕ) (x : Bytes) (n need : ℕ) (mem : Bytes) → judgement (m k w x) ≡ refused_by n need → writes (m k w x) mem ≡ false

abbrev pub BookCallsAgree : Type 0
BookCallsAgree = (m : Meaning) → BookLaws m → CallsAgree m

-- ── the plain book ──
abbrev pub plain : Meaning
plain k w x = accept w x
