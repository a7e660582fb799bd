-- What a filter reads as, and the fault where it does not. Assumes nothing.
use Rattle.std.specs.Prelude.{ℕ, ◌+◌, ◌/◌, ◌%◌, true, false, cond, List, [], ◌∷◌, length, Ok, Err, ◌==◌, nat_lt, slice_index_or}
use Rattle.model.specs.Numbers.{Bytes, number}
use Rattle.model.specs.Faults.{fault, needing, refused, Read, ◌>>=◌}
use Rattle.model.specs.Attributes.{type_of, Attribute, attribute}
use Rattle.model.specs.Walk.{Walked, done, bad, item, walk}
use Rattle.model.specs.Text.{is_text, stripped}
use Rattle.model.specs.Selector.{Selector}
use Rattle.model.specs.Book.{Answer, accept, refuse, Meaning}
use Rattle.model.specs.Selector as selectors

-- an action option is the word and payload that its book writes
pub data ActionAttribute : Type 0 where
  kind : Bytes → ActionAttribute
  options : List Attribute → ActionAttribute
  index : ℕ → ActionAttribute
  stats : Bytes → ActionAttribute
  cookie : Bytes → ActionAttribute
  in_hw_count : ℕ → ActionAttribute
  other : (word : ℕ) → Bytes → ActionAttribute

pub record Action : Type 0 where
  pub tab : ℕ
  pub kind_text : Bytes
  pub attributes : List ActionAttribute

pub data FilterOption : Type 0 where
  class_id : (major minor : ℕ) → FilterOption
  hash : ℕ → FilterOption
  link : ℕ → FilterOption
  divisor : ℕ → FilterOption
  selector : Selector → FilterOption
  police : Bytes → FilterOption
  actions : List Action → FilterOption
  indev : Bytes → FilterOption
  pcnt : Bytes → FilterOption
  mark : Bytes → FilterOption
  flags : ℕ → FilterOption
  default : (word : ℕ) → Bytes → FilterOption

abbrev pub Reading : Type 0
Reading = List FilterOption

-- ── readers ──
-- every attribute of a walk, in order
abbrev pub each : {A : Type 0} → (layer : ℕ) → (ℕ → ℕ → Bytes → Read A) → Walked → Read (List A)
each layer f done = Ok []
each layer f (bad c p) = Err (fault c p layer)
each layer f (item p w x r) = f p w x >>= λ a. each layer f r >>= λ l. Ok (a ∷ l)

abbrev pub u32 : (place layer : ℕ) → Bytes → Read ℕ
u32 p layer x = cond (length x == 4) (Ok (number x)) (Err (needing 12 p layer 4))

abbrev pub text : (place layer : ℕ) → Bytes → Read Bytes
text p layer x = cond (is_text (stripped x)) (Ok (stripped x)) (Err (fault 9 p layer))

abbrev pub read_selector : (place : ℕ) → Bytes → Read Selector
read_selector p x =
    cond (nat_lt (length x) 16) (Err (needing 13 p 1 16))
    (cond (nat_lt (length x) (selectors.wanted x)) (Err (needing 13 p 1 (selectors.wanted x))) (Ok (selectors.decode x)))

abbrev pub as_read : (place : ℕ) → Answer → Read Attribute
as_read p (accept w x) = Ok (attribute w x)
as_read p (refuse number need) = Err (refused p need number)

-- the forms of an action's attributes, by type from 0 on; every further type is a default
pub data AttributeForm : Type 0 where
  as_kind as_options as_default : AttributeForm
  as_u32 : (ℕ → ActionAttribute) → AttributeForm
  as_raw : (Bytes → ActionAttribute) → AttributeForm

abbrev pub attribute_forms : List AttributeForm
attribute_forms = as_default ∷ as_kind ∷ as_options ∷ as_u32 index ∷ as_raw stats ∷ as_default ∷ as_raw cookie ∷ as_default ∷ as_default ∷ as_default ∷ as_u32 in_hw_count ∷ []

module _ (m : Meaning) where
  abbrev pub read_as : AttributeForm → (kind_text : Bytes) → (place word : ℕ) → Bytes → Read ActionAttribute
  read_as as_kind k p w x = text p 3 x >>= λ t. Ok (kind t)
  read_as as_options k p w x = each 4 (λ q v y. as_read q (m k v y)) (walk (p + 4) x) >>= λ l. Ok (options l)
  read_as as_default k p w x = Ok (other w x)
  read_as (as_u32 f) k p w x = u32 p 3 x >>= λ n. Ok (f n)
  read_as (as_raw f) k p w x = Ok (f x)

  abbrev pub read_attribute : (kind_text : Bytes) → (place word : ℕ) → Bytes → Read ActionAttribute
  read_attribute k p w x = read_as (slice_index_or attribute_forms (type_of w) as_default) k p w x

-- the kind texts of an action
abbrev pub kinds : Walked → Read (List Bytes)
kinds done = Ok []
kinds (bad c p) = Err (fault c p 3)
kinds (item p w x r) = elim (type_of w == 1) [ true ↦ text p 3 x >>= (λ t. kinds r >>= λ l. Ok (t ∷ l)) | false ↦ kinds r ]

abbrev pub the_kind : (place : ℕ) → List Bytes → Read Bytes
the_kind p [] = Err (fault 10 p 2)
the_kind p (t ∷ []) = Ok t
the_kind p (t ∷ u ∷ l) = Err (fault 11 p 2)

pub data OptionForm : Type 0 where
  as_class_id as_selector as_actions as_default : OptionForm
  as_u32 : (ℕ → FilterOption) → OptionForm
  as_raw : (Bytes → FilterOption) → OptionForm

abbrev pub option_forms : List OptionForm
option_forms = OptionForm.as_default ∷ as_class_id ∷ OptionForm.as_u32 hash ∷ OptionForm.as_u32 link ∷ OptionForm.as_u32 divisor ∷ as_selector ∷ OptionForm.as_raw police ∷ as_actions
    ∷ OptionForm.as_raw indev ∷ OptionForm.as_raw pcnt ∷ OptionForm.as_raw mark ∷ OptionForm.as_u32 flags ∷ []

module _ (m : Meaning) where
  -- first every kind text, then that there is one, then the attributes in order
  abbrev pub read_action : (place word : ℕ) → Bytes → Read Action
  read_action p w x =
      kinds (walk (p + 4) x) >>= λ l. the_kind p l >>= λ k. each 3 (read_attribute m k) (walk (p + 4) x) >>= λ as'.
      Ok (record { tab = type_of w; kind_text = k; attributes = as' })

  abbrev pub read_option_as : OptionForm → (place word : ℕ) → Bytes → Read FilterOption
  read_option_as as_class_id p w x = u32 p 1 x >>= λ n. Ok (class_id (n / 65536) (n % 65536))
  read_option_as as_selector p w x = read_selector p x >>= λ s. Ok (selector s)
  read_option_as as_actions p w x = each 2 read_action (walk (p + 4) x) >>= λ l. Ok (actions l)
  read_option_as OptionForm.as_default p w x = Ok (default w x)
  read_option_as (OptionForm.as_u32 f) p w x = u32 p 1 x >>= λ n. Ok (f n)
  read_option_as (OptionForm.as_raw f) p w x = Ok (f x)

  abbrev pub read_option : (place word : ℕ) → Bytes → Read FilterOption
  read_option p w x = read_option_as (slice_index_or option_forms (type_of w) OptionForm.as_default) p w x

  abbrev pub read_options : Bytes → Read Reading
  read_options bs = each 1 read_option (walk 0 bs)

  -- the reading of a filter, or its fault
  abbrev pub read_filter : Bytes → Read Reading
  read_filter bs = cond (nat_lt 65531 (length bs)) (Err (fault 1 0 1)) (read_options bs)
