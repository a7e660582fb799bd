-- The turns found by walking over what is written of a reading are the reading's. Assumes nothing.
use Rattle.std.proofs.Common.{◌≡◌, ℕ, ◌+◌, ◌%◌, ◌<◌, ◌≤◌, Bool, cond, List, [], ◌∷◌, ◌++◌, map, length, Ok, refl, ap, ◌∙◌, ap₂, arith}
use Rattle.std.proofs.lemmas.Bool.{ne_eqb}
use Rattle.std.specs.List.{flat_map, AllByRecursion}
use Rattle.model.specs.Numbers.{Bytes, Octets}
use Rattle.model.specs.Attributes.{type_of, rounded, Attribute, Writable, encode_all}
use Rattle.model.specs.Walk.{walk, found}
use Rattle.model.specs.Book.{Meaning, BookLaws}
use Rattle.model.specs.Reading.{ActionAttribute, kind, options, index, stats, cookie, in_hw_count, other, Action, FilterOption, class_id, hash, link, divisor, selector, police, actions, indev, pcnt, mark, flags, default, Reading, read_filter}
use Rattle.model.specs.Writing.{write_attribute, write_action, write_option, written}
use Rattle.model.specs.Runs.{Turn}
use Rattle.model.specs.Building.{put_of, attribute_turns, action_turns, option_turns, reading_turns}
use Rattle.model.proofs.Walk.{walk_of_encode}
use Rattle.model.proofs.Each.{all_mapped}
use Rattle.model.proofs.ActionAttributes.{Steady}
use Rattle.model.proofs.Actions.{SteadyAction, all_short, all_both}
use Rattle.model.proofs.RoundTrip.{SteadyOption, all_steady, read_inside}
use Rattle.page_build.specs.Fillings.{TurnsAt, row_turns, nest_turns, put_turns, option_turns_at, attribute_turns_at, action_turns_at, filter_turns_at}

module _ {A : Type 0} (f : TurnsAt) (t : A → List Turn) (w : A → Attribute) (P : A → Type 0) (same : (p : ℕ) (a : A) → P a → f p (w a).word (w a).payload ≡ t a) where
  row-found : (p : ℕ) (l : List A) → AllByRecursion P l → row_turns f (found p (map w l)) ≡ flat_map t l
  row-found p [] ok = refl
  row-found p (a ∷ l) ok = ap₂ ◌++◌ (same p a ok.0) (row-found (p + rounded (4 + length (w a).payload)) l ok.1)

  row_written : (p : ℕ) (l : List A) → ((a : A) → P a → Writable (w a)) → AllByRecursion P l → row_turns f (walk p (encode_all (map w l))) ≡ flat_map t l
  row_written p l ok h = ap (row_turns f) (walk_of_encode p (map w l) (all_mapped P Writable w ok l h)) ∙ row-found p l h

-- ── the options of an action ──
options-found : (p : ℕ) (l : List Attribute) → row_turns option_turns_at (found p l) ≡ flat_map (λ a. put_of a ∷ []) l
options-found p [] = refl
options-found p (a ∷ l) = ap (λ (ts : List Turn). put_of a ∷ ts) (options-found (p + rounded (4 + length a.payload)) l)

all_writable : (l : List Attribute) → AllByRecursion (λ o. Writable o × Octets o.payload) l → AllByRecursion Writable l
all_writable [] h = tt
all_writable (a ∷ l) h = (h.0.0, all_writable l h.1)

options-written : (p : ℕ) (l : List Attribute) → AllByRecursion (λ o. Writable o × Octets o.payload) l → row_turns option_turns_at (walk p (encode_all l)) ≡ flat_map (λ a. put_of a ∷ []) l
options-written p l h = ap (row_turns option_turns_at) (walk_of_encode p l (all_writable l h)) ∙ options-found p l

module _ (m : Meaning) (laws : BookLaws m) where
  abbrev AttributeKept : Bytes → ActionAttribute → Type 0
  AttributeKept k b = Steady m k b × (length (write_attribute b).payload ≤ 65531)

  abbrev ActionKept : Action → Type 0
  ActionKept a = SteadyAction m laws a × (length (write_action a).payload ≤ 65531)

  abbrev OptionKept : FilterOption → Type 0
  OptionKept o = SteadyOption m laws o × (length (write_option o).payload ≤ 65531)

  attribute_same : (k : Bytes) (p : ℕ) (b : ActionAttribute) → AttributeKept k b → attribute_turns_at p (write_attribute b).word (write_attribute b).payload ≡ attribute_turns b
  attribute_same k p (kind t) h = refl
  attribute_same k p (options l) h = ap (nest_turns 2) (options-written (p + 4) l h.0.known)
  attribute_same k p (index n) h = refl
  attribute_same k p (stats x) h = refl
  attribute_same k p (cookie x) h = refl
  attribute_same k p (in_hw_count n) h = refl
  attribute_same k p (other w x) h =
      ap (λ (t : Bool). cond t (nest_turns (type_of w) (row_turns option_turns_at (walk (p + 4) x))) (put_turns w x)) (ne_eqb (type_of w) 2 h.0.known.0)

  action_same : (p : ℕ) (a : Action) → ActionKept a → action_turns_at p (write_action a).word (write_action a).payload ≡ action_turns a
  action_same p a h =
      let small : a.tab < 16384 = h.0.tab14 in
      let tab : a.tab % 16384 ≡ a.tab = omega arith in
      let kept = all_both (Steady m a.kind_text) (λ b. length (write_attribute b).payload ≤ 65531) a.attributes h.0.all_steady (all_short write_attribute 65531 a.attributes h.1) in
      ap₂ nest_turns tab
      (row_written attribute_turns_at attribute_turns write_attribute (AttributeKept a.kind_text) (attribute_same a.kind_text) (p + 4) a.attributes (λ b g. record { word16 = g.0.word16; short = g.1 }) kept)

  option_same : (p : ℕ) (o : FilterOption) → OptionKept o → filter_turns_at p (write_option o).word (write_option o).payload ≡ option_turns o
  option_same p (class_id a b) h = refl
  option_same p (hash n) h = refl
  option_same p (link n) h = refl
  option_same p (divisor n) h = refl
  option_same p (selector s) h = refl
  option_same p (police x) h = refl
  option_same p (actions l) h =
      let kept = all_both (SteadyAction m laws) (λ a. length (write_action a).payload ≤ 65531) l h.0.known (all_short write_action 65531 l h.1) in
      ap (nest_turns 7) (row_written action_turns_at action_turns write_action ActionKept action_same (p + 4) l (λ a g. let small : a.tab < 16384 = g.0.tab14 in record { word16 = omega arith; short = g.1 }) kept)
  option_same p (indev x) h = refl
  option_same p (pcnt x) h = refl
  option_same p (mark x) h = refl
  option_same p (flags n) h = refl
  option_same p (default w x) h =
      ap (λ (t : Bool). cond t (nest_turns (type_of w) (row_turns action_turns_at (walk (p + 4) x))) (put_turns w x)) (ne_eqb (type_of w) 7 h.0.known.0)

  pub reading_same : (bs : Bytes) → Octets bs → (r : Reading) → read_filter m bs ≡ Ok r → length (written r) ≤ 65531 → row_turns filter_turns_at (walk 0 (written r)) ≡ reading_turns r
  reading_same bs o r q short =
      let kept = all_both (SteadyOption m laws) (λ o. length (write_option o).payload ≤ 65531) r (all_steady m laws bs o r (read_inside m laws bs r q)) (all_short write_option 65531 r short) in
      row_written filter_turns_at option_turns write_option OptionKept option_same 0 r (λ o g. record { word16 = g.0.word16; short = g.1 }) kept
