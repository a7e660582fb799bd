-- Refusals as a statement: for each call its causes in the order of their numbers, each with the condition under which it holds and the fault that it gives. Assumes nothing.
use Rattle.std.specs.Prelude.{◌≡◌, ℕ, zero, suc, ◌+◌, ◌-◌, ◌<◌, ◌≤◌, ◌⊎◌, List, [], ◌∷◌, ◌++◌, map, length, Ok, Err, IsUtf8, slice_index}
use Rattle.model.specs.Numbers.{Bytes, Octets, part}
use Rattle.model.specs.Faults.{FaultNumbers, fault, Read}
use Rattle.model.specs.Attributes.{type_of, rounded}
use Rattle.model.specs.Walk.{Walked, done, bad, item, walk}
use Rattle.model.specs.Text.{stripped}
use Rattle.model.specs.Selector.{wanted}
use Rattle.model.specs.Book.{Meaning}
use Rattle.model.specs.Reading.{Action, FilterOption, actions, Reading, read_action, read_options, read_filter}
use Rattle.model.specs.Writing.{write_option, written, write_out}
use Rattle.model.specs.Page.{Page, level, Call, put, open_nest, close, strike, new_page, own_fault, only_fault, verdict}

-- a cause that may refuse a call: when it holds, and the fault that it then gives
pub record Ground : Type 1 where
  pub holds : Type 0
  pub gives : holds → FaultNumbers

abbrev pub ground : (holds : Type 0) → FaultNumbers → Ground
ground P e = record { holds = P; gives = λ _. e }

-- what a call with these grounds answers: the fault of the first that holds, acceptance when none does
abbrev pub First : List Ground → Read (Unit {0}) → Type 0
First [] r = r ≡ Ok tt
First (g ∷ gs) r = ((h : g.holds) × (r ≡ Err (g.gives h))) ⊎ ((g.holds → ⊥) × First gs r)

-- a fault of this cause that a reader found, with its place, layer, need and book's number
abbrev pub found_by : {A : Type 0} → Read A → (cause : ℕ) → Ground
found_by r c = record { holds = (e : FaultNumbers) × ((r ≡ Err e) × (e.cause ≡ c)); gives = λ h. h.0 }

-- ── the page's calls ──
-- a put belongs: at level 0 any type but 7, at level 2 any but 2, at level 3 any
abbrev pub PutBelongs : (level type : ℕ) → Type 0
PutBelongs zero t = ¬ (t ≡ 7)
PutBelongs (suc zero) t = ⊥
PutBelongs (suc (suc zero)) t = ¬ (t ≡ 2)
PutBelongs (suc (suc (suc n))) t = Unit {0}

-- an opening belongs: at level 0 of type 7, at level 1 of any, at level 2 of type 2
abbrev pub OpenBelongs : (level type : ℕ) → Type 0
OpenBelongs zero t = t ≡ 7
OpenBelongs (suc zero) t = Unit {0}
OpenBelongs (suc (suc zero)) t = t ≡ 2
OpenBelongs (suc (suc (suc n))) t = ⊥

-- types whose payload is a u32: of a filter's options 1 to 4 and 11, of an action's attributes 3 and 10
abbrev pub IsU32 : (level type : ℕ) → Type 0
IsU32 zero t = (t ≡ 1) ⊎ ((t ≡ 2) ⊎ ((t ≡ 3) ⊎ ((t ≡ 4) ⊎ (t ≡ 11))))
IsU32 (suc zero) t = ⊥
IsU32 (suc (suc zero)) t = (t ≡ 3) ⊎ (t ≡ 10)
IsU32 (suc (suc (suc n))) t = ⊥

-- a kind text is an action's attribute of type 1, and a selector a filter's option of type 5
abbrev pub IsKind : (level type : ℕ) → Type 0
IsKind l t = (l ≡ 2) × (t ≡ 1)

abbrev pub IsSelector : (level type : ℕ) → Type 0
IsSelector l t = (l ≡ 0) × (t ≡ 5)

module _ (m : Meaning) (g : Page) (mem : Bytes) where
  abbrev other_memory : Ground
  other_memory = ground (¬ (length mem ≡ g.size)) (own_fault g 2 0)

  abbrev no_room : (need : ℕ) → Ground
  no_room n = ground (g.size - g.used < n) (own_fault g 16 0)

  abbrev no_nest : Ground
  no_nest = ground (level g ≡ 0) (own_fault g 5 0)

  abbrev put_grounds : (word : ℕ) → Bytes → List Ground
  put_grounds w x =
      other_memory
      ∷ ground (¬ PutBelongs (level g) (type_of w)) (own_fault g 4 0)
      ∷ ground (IsKind (level g) (type_of w) × ¬ IsUtf8 (stripped x)) (own_fault g 9 0)
      ∷ ground (IsU32 (level g) (type_of w) × ¬ (length x ≡ 4)) (own_fault g 12 4)
      ∷ ground (IsSelector (level g) (type_of w) × (length x < 16)) (own_fault g 13 16)
      ∷ ground (IsSelector (level g) (type_of w) × (length x < wanted x)) (own_fault g 13 (wanted x))
      ∷ no_room (4 + rounded (length x))
      ∷ []

  abbrev open_grounds : (type : ℕ) → List Ground
  open_grounds t =
      other_memory
      ∷ ground (16383 < t) (own_fault g 3 0)
      ∷ ground (¬ OpenBelongs (level g) t) (own_fault g 4 0)
      ∷ no_room 4
      ∷ []

  -- what reading the innermost nest as an action finds
  abbrev pub innermost : Read Action
  innermost = read_action m (slice_index g.heads 0) 0 (part (slice_index g.heads 0 + 4) (g.used - (slice_index g.heads 0 + 4)) mem)

  -- at level 2 a fault of this cause in the action, at its own place and layer
  abbrev in_action : (cause : ℕ) → Ground
  in_action c = record { holds = (level g ≡ 2) × (found_by innermost c).holds; gives = λ h. h.1.0 }

  abbrev close_grounds : List Ground
  close_grounds = other_memory ∷ no_nest ∷ map in_action (6 ∷ 7 ∷ 8 ∷ 9 ∷ 10 ∷ 11 ∷ 12 ∷ 14 ∷ [])

  abbrev strike_grounds : List Ground
  strike_grounds = other_memory ∷ no_nest ∷ []

  abbrev pub grounds : Call → List Ground
  grounds (put w x) = put_grounds w x
  grounds (open_nest t) = open_grounds t
  grounds close = close_grounds
  grounds strike = strike_grounds

-- every call of a page, in whatever state, answers the first of its causes that holds, and is accepted when none does; so does the making of a page
pub record PageCallsAnswerTheFirstCause : Type 0 where
  pub of_calls : (m : Meaning) (g : Page) (mem : Bytes) (c : Call) → First (grounds m g mem c) (verdict m g mem c)
  pub of_making : (n : ℕ) → First (ground (65531 < n) (fault 1 0 1) ∷ []) (only_fault (new_page n))

-- ── writing out ──
-- the place of the i-th attribute that a walk finds
abbrev pub place_of : ℕ → Walked → ℕ
place_of i done = 0
place_of i (bad c p) = 0
place_of zero (item p w x r) = p
place_of (suc i) (item p w x r) = place_of i r

-- an option of actions whose written payload its length field can't tell
abbrev pub Outgrows : FilterOption → Type 0
Outgrows o = (l : List Action) × ((o ≡ actions l) × (65531 < length (write_option o).payload))

-- the i-th option is the first such
abbrev pub FirstOutgrown : ℕ → Reading → Type 0
FirstOutgrown i [] = ⊥
FirstOutgrown zero (o ∷ r) = Outgrows o
FirstOutgrown (suc i) (o ∷ r) = (length (write_option o).payload ≤ 65531) × FirstOutgrown i r

module _ (m : Meaning) (free : ℕ) (bs : Bytes) where
  abbrev outgrown : Ground
  outgrown = record {
    holds = (r : Reading) × ((i : ℕ) × ((read_options m bs ≡ Ok r) × FirstOutgrown i r));
    gives = λ h. fault 15 (place_of h.1.0 (walk 0 bs)) 1;
  }

  abbrev no_room_for_it : Ground
  no_room_for_it = ground ((r : Reading) × ((read_options m bs ≡ Ok r) × (free < length (written r)))) (fault 16 0 1)

  -- what reading finds, then 15, then 16
  abbrev pub write_out_grounds : List Ground
  write_out_grounds =
      ground (65531 < length bs) (fault 1 0 1) ∷ (map (found_by (read_options m bs)) (6 ∷ 7 ∷ 8 ∷ 9 ∷ 10 ∷ 11 ∷ 12 ∷ 13 ∷ 14 ∷ []) ++ (outgrown ∷ no_room_for_it ∷ []))

-- writing out answers the first of its causes that holds, and when none does the written form of the reading
pub record WritingOutAnswersTheFirstCause : Type 0 where
  pub refusals : (m : Meaning) (free : ℕ) (bs : Bytes) → Octets bs → First (write_out_grounds m free bs) (only_fault (write_out m free bs))
  pub value : (m : Meaning) (free : ℕ) (bs x : Bytes) → write_out m free bs ≡ Ok x → (r : Reading) × ((read_filter m bs ≡ Ok r) × (x ≡ written r))
