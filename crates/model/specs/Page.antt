-- The page, on which a filter is put together call by call: what each call checks and does. Assumes nothing.
use Rattle.std.specs.Prelude.{ℕ, zero, suc, ◌+◌, ◌-◌, ◌<◌, Bool, true, false, cond, not, List, [], ◌∷◌, ◌++◌, length, take, drop, Ok, Err, ◌==◌, nat_lt}
use Rattle.model.specs.Numbers.{Bytes, Octets, le_bytes, part}
use Rattle.model.specs.Faults.{FaultNumbers, fault, needing, Read, ◌>>=◌}
use Rattle.model.specs.Attributes.{type_of, rounded, attribute, head, encode}
use Rattle.model.specs.Book.{Meaning}
use Rattle.model.specs.Reading.{read_option, read_attribute, read_action}

-- A page is a filter in the making. It has the memory's length at the making, the used length, and the places of the heads of the nests that are open, the innermost first.
pub record Page : Type 0 where
  pub size : ℕ
  pub used : ℕ
  pub heads : List ℕ

-- put writes one attribute; open_nest begins a nest, close ends the innermost nest and keeps it, strike ends it and removes it
pub data Call : Type 0 where
  put : (word : ℕ) → Bytes → Call
  open_nest : (type : ℕ) → Call
  close : Call
  strike : Call

-- what code can pass: a word of 16 bits, bytes
abbrev pub InRange : Call → Type 0
InRange (put w x) = (w < 65536) × Octets x
InRange (open_nest t) = t < 65536
InRange close = Unit {0}
InRange strike = Unit {0}

abbrev pub new_page : (memory_length : ℕ) → Read Page
new_page n = cond (nat_lt 65531 n) (Err (fault 1 0 1)) (Ok (record { size = n; used = 0; heads = [] }))

abbrev pub level : Page → ℕ
level g = length g.heads

-- a call's own refusal
abbrev pub own_fault : Page → (cause need : ℕ) → FaultNumbers
own_fault g c n = needing c g.used (suc (level g)) n

abbrev pub check : Bool → FaultNumbers → Read (Unit {0})
check true e = Ok tt
check false e = Err e

abbrev pub only_fault : {A : Type 0} → Read A → Read (Unit {0})
only_fault (Ok a) = Ok tt
only_fault (Err e) = Err e

-- the bytes written over those at a place, the rest kept
abbrev pub over : Bytes → (place : ℕ) → Bytes → Bytes
over mem p bs = take p mem ++ (bs ++ drop (p + length bs) mem)

-- does a put of this type belong at this level, and an opening of this type
abbrev pub put_belongs : (level type : ℕ) → Bool
put_belongs zero t = not (t == 7)
put_belongs (suc zero) t = false
put_belongs (suc (suc zero)) t = not (t == 2)
put_belongs (suc (suc (suc n))) t = true

abbrev pub open_belongs : (level type : ℕ) → Bool
open_belongs zero t = t == 7
open_belongs (suc zero) t = true
open_belongs (suc (suc zero)) t = t == 2
open_belongs (suc (suc (suc n))) t = false

-- an attribute that is put must read by itself: as a filter option, or as an action's attribute
abbrev pub reads_alone : Meaning → Page → (level word : ℕ) → Bytes → Read (Unit {0})
reads_alone m g zero w x = only_fault (read_option m g.used w x)
reads_alone m g (suc zero) w x = Ok tt
reads_alone m g (suc (suc zero)) w x = only_fault (read_attribute m [] g.used w x)
reads_alone m g (suc (suc (suc n))) w x = Ok tt

-- what a nest's head is written with: flag 0x8000 only at level 2
abbrev pub opened_word : (level type : ℕ) → ℕ
opened_word zero t = t
opened_word (suc zero) t = t
opened_word (suc (suc zero)) t = 0x8000 + t
opened_word (suc (suc (suc n))) t = t

-- the action whose head is at h: what it reads as
abbrev pub action_at : Meaning → Bytes → Page → (h : ℕ) → Read (Unit {0})
action_at m mem g h = only_fault (read_action m h 0 (part (h + 4) (g.used - (h + 4)) mem))

abbrev pub close_reads : Meaning → Bytes → Page → Read (Unit {0})
close_reads m mem g = elim g.heads [
  | [] ↦ Ok tt
  | h ∷ outer ↦ cond (length outer == 1) (action_at m mem g h) (Ok tt)
]

-- The causes of each call in their order: the first that holds refuses it.
abbrev pub verdict : Meaning → Page → Bytes → Call → Read (Unit {0})
verdict m g mem (put w x) =
    check (length mem == g.size) (own_fault g 2 0) >>= λ _.
    check (put_belongs (level g) (type_of w)) (own_fault g 4 0) >>= λ _.
    reads_alone m g (level g) w x >>= λ _.
    check (not (nat_lt (g.size - g.used) (4 + rounded (length x)))) (own_fault g 16 0)
verdict m g mem (open_nest t) =
    check (length mem == g.size) (own_fault g 2 0) >>= λ _.
    check (not (nat_lt 16383 t)) (own_fault g 3 0) >>= λ _.
    check (open_belongs (level g) t) (own_fault g 4 0) >>= λ _.
    check (not (nat_lt (g.size - g.used) 4)) (own_fault g 16 0)
verdict m g mem close =
    check (length mem == g.size) (own_fault g 2 0) >>= λ _.
    check (nat_lt 0 (level g)) (own_fault g 5 0) >>= λ _.
    close_reads m mem g
verdict m g mem strike =
    check (length mem == g.size) (own_fault g 2 0) >>= λ _.
    check (nat_lt 0 (level g)) (own_fault g 5 0)

-- what an accepted call does to the page, and to the memory
abbrev pub page_after : Page → Call → Page
page_after g (put w x) = record { size = g.size; used = g.used + (4 + rounded (length x)); heads = g.heads }
page_after g (open_nest t) = record { size = g.size; used = g.used + 4; heads = g.used ∷ g.heads }
page_after g close = record { size = g.size; used = g.used; heads = drop 1 g.heads }
page_after g strike = elim g.heads [ [] ↦ g | h ∷ outer ↦ record { size = g.size; used = h; heads = outer } ]

abbrev pub memory_after : Page → Bytes → Call → Bytes
memory_after g mem (put w x) = over mem g.used (encode (attribute w x))
memory_after g mem (open_nest t) = over mem g.used (head 0 (opened_word (level g) t))
memory_after g mem close = elim g.heads [ [] ↦ mem | h ∷ outer ↦ over mem h (le_bytes 2 (g.used - h)) ]
memory_after g mem strike = mem

-- page, memory and verdict after a call; a refused call leaves page and memory as they were
pub record State : Type 0 where
  pub page : Page
  pub memory : Bytes

abbrev pub state : Page → Bytes → State
state g mem = record { page = g; memory = mem }

abbrev pub accepted : {A : Type 0} → Read A → Bool
accepted (Ok a) = true
accepted (Err e) = false
