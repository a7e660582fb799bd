-- What one call leaves: its answer, and page and memory after it. Assumes nothing.
use Rattle.std.specs.Prelude.{ℕ, ◌+◌, ◌-◌, cond, ◌∷◌, length, drop, Ok, Err, nat_lt}
use Rattle.model.specs.Numbers.{Bytes, le_bytes}
use Rattle.model.specs.Faults.{Read}
use Rattle.model.specs.Attributes.{rounded, head}
use Rattle.model.specs.Book.{Meaning}
use Rattle.model.specs.Page.{Call, put, State, state, own_fault, over, page_after, memory_after}
use Rattle.model.specs.Runs.{Turn, with_own_memory, answer, after}

pub record Outcome : Type 0 where
  pub answer : Read (Unit {0})
  pub after : State

abbrev pub outcome : Read (Unit {0}) → State → Outcome
outcome r s = record { answer = r; after = s }

-- a call with the memory that it is handed
abbrev pub turned : Meaning → State → Turn → Outcome
turned m s t = outcome (answer m s t) (after m s t)

-- a call with the page's memory
abbrev pub stepped : Meaning → State → Call → Outcome
stepped m s c = turned m s (with_own_memory c)

-- ── the parts of a call ──
-- a call's own refusal
abbrev pub refused : State → (cause : ℕ) → Outcome
refused s c = outcome (Err (own_fault s.page c 0)) s

-- what needs so many bytes free
abbrev pub in_room : State → (need : ℕ) → State → Outcome
in_room s n t = cond (nat_lt (s.page.size - s.page.used) n) (refused s 16) (outcome (Ok tt) t)

-- an attribute is written behind what is used
abbrev pub appended : State → (word : ℕ) → Bytes → Outcome
appended s w x = in_room s (4 + rounded (length x)) (state (page_after s.page (put w x)) (memory_after s.page s.memory (put w x)))

-- a head with length 0 is written there, and a nest is open
abbrev pub nested : State → (word : ℕ) → Outcome
nested s w = in_room s 4 (state (record { size = s.page.size; used = s.page.used + 4; heads = s.page.used ∷ s.page.heads }) (over s.memory s.page.used (head 0 w)))

-- the innermost nest, whose head is at h, is ended and kept: its length is written
abbrev pub sealed : State → (h : ℕ) → Outcome
sealed s h = outcome (Ok tt) (state (record { size = s.page.size; used = s.page.used; heads = drop 1 s.page.heads }) (over s.memory h (le_bytes 2 (s.page.used - h))))

-- or it is removed
abbrev pub struck : State → (h : ℕ) → Outcome
struck s h = outcome (Ok tt) (state (record { size = s.page.size; used = h; heads = drop 1 s.page.heads }) s.memory)
