-- What is claimed of reading, writing out and the page: for every book's meaning that keeps the laws. Assumes nothing.
use Rattle.std.specs.Prelude.{◌≡◌, ℕ, ◌+◌, ◌-◌, ◌<◌, ◌≤◌, List, [], length, drop, Ok, Err}
use Rattle.std.specs.List.{AllByRecursion}
use Rattle.model.specs.Numbers.{Bytes, Octets, part, le}
use Rattle.model.specs.Faults.{fault}
use Rattle.model.specs.Attributes.{rounded, Attribute, Writable, encode_all}
use Rattle.model.specs.Walk.{done, bad, item, walk, found}
use Rattle.model.specs.Book.{Meaning, BookLaws}
use Rattle.model.specs.Selector.{Selector, encode}
use Rattle.model.specs.Reading.{read_selector, read_filter, Reading}
use Rattle.model.specs.Counts.{counts}
use Rattle.model.specs.Writing.{written, write_out}
use Rattle.model.specs.Page.{State, level}
use Rattle.model.specs.Runs.{Turn, Run, run, start, page_bytes}
use Rattle.model.specs.Card.{Card, PageItem, card_of, card_bytes, page_list, open_nests, outermost, page_items_bytes}
use Rattle.model.specs.Reordering.{Spot, page_items_reordered, reading_reordered}
use Rattle.model.specs.CardReading.{page_items_reading, page_items_counts}

-- the walk, head by head: what it finds at the front of bs, whose first byte has the place p
pub record WalkGoesByHeads : Type 0 where
  pub ended : (p : ℕ) → walk p [] ≡ done
  -- fewer than 4 bytes remain; the length field exceeds what remains; it is below 4
  pub cut_off : (p : ℕ) (bs : Bytes) → 0 < length bs → length bs < 4 → walk p bs ≡ bad 6 p
  pub beyond : (p : ℕ) (bs : Bytes) → 4 ≤ length bs → length bs < le 0 2 bs → walk p bs ≡ bad 7 p
  pub below : (p : ℕ) (bs : Bytes) → 4 ≤ length bs → le 0 2 bs < 4 → walk p bs ≡ bad 8 p
  -- else an attribute, and the next begins at its length rounded up to 4
  pub onward : (p : ℕ) (bs : Bytes) → 4 ≤ le 0 2 bs → le 0 2 bs ≤ length bs →
      walk p bs ≡ item p (le 2 2 bs) (part 4 (le 0 2 bs - 4) bs) (walk (p + rounded (le 0 2 bs)) (drop (rounded (le 0 2 bs)) bs))

-- the walk over attributes that are written finds them
abbrev pub WalkOfEncode : Type 0
WalkOfEncode = (p : ℕ) (l : List Attribute) → AllByRecursion Writable l → walk p (encode_all l) ≡ found p l

-- a selector that was read is read again from what is written, wherever it stands
abbrev pub SelectorReadsAgain : Type 0
SelectorReadsAgain = (p q : ℕ) (x : Bytes) (s : Selector) → Octets x → read_selector p x ≡ Ok s → read_selector q (encode s) ≡ Ok s

-- what is written out within 65,531 bytes reads as before
abbrev pub RoundTrip : Type 0
RoundTrip = (m : Meaning) → BookLaws m → (bs : Bytes) → Octets bs → (r : Reading) → read_filter m bs ≡ Ok r → length (written r) ≤ 65531 → read_filter m (written r) ≡ Ok r

-- two filters that can be written out are written alike exactly when their readings are equal
abbrev pub Canonical : Type 0
Canonical = (m : Meaning) → BookLaws m → (bs cs : Bytes) → Octets bs → Octets cs → (free free' : ℕ) (x y : Bytes) →
    write_out m free bs ≡ Ok x → write_out m free' cs ≡ Ok y →
    (x ≡ y → read_filter m bs ≡ read_filter m cs) × (read_filter m bs ≡ read_filter m cs → x ≡ y)

-- ── the page ──
-- what holds of a page's state s and its run's card k
pub record PageAgrees (m : Meaning) (s : State) (k : Card) : Type 0 where
  pub bytes : page_bytes s ≡ card_bytes k
  pub nests : level s.page ≡ open_nests k
  -- with no nest open the reader accepts, with the card's reading and counts
  pub closed : open_nests k ≡ 0 → (r : Reading) × ((read_filter m (page_bytes s) ≡ Ok r) × (page_items_reading m (page_list k) ≡ Ok r) × (counts r ≡ page_items_counts (page_list k)))
  -- else it refuses by 8 at the outermost open head
  pub open_still : 0 < open_nests k → read_filter m (page_bytes s) ≡ Err (fault 8 (outermost k) 1)

-- a: after every run the page's bytes are its card's, and so read. (Each part of a run from its start is a run.)
abbrev pub PageIsItsCard : Type 0
PageIsItsCard = (m : Meaning) → BookLaws m → (memory : Bytes) → Octets memory → length memory ≤ 65531 → (ts : List Turn) → Run (length memory) ts →
    PageAgrees m (run m (start memory) ts) (card_of m (start memory) ts)

-- b: every filter that reads, and is written within 65,531 bytes, is so written the page of some run, in memory of just that length
abbrev pub EveryFilterIsAPage : Type 0
EveryFilterIsAPage = (m : Meaning) → BookLaws m → (bs : Bytes) → Octets bs → (r : Reading) → read_filter m bs ≡ Ok r → length (written r) ≤ 65531 →
    (memory : Bytes) → Octets memory → length memory ≡ length (written r) →
    (ts : List Turn) × (Run (length memory) ts × (page_bytes (run m (start memory) ts) ≡ written r) × (level (run m (start memory) ts).page ≡ 0))

-- c: with no nest open, one list of the page in any other order reads, each attribute as before in the new order, with the same counts
abbrev pub OrderIsFree : Type 0
OrderIsFree = (m : Meaning) → BookLaws m → (memory : Bytes) → Octets memory → length memory ≤ 65531 → (ts : List Turn) → Run (length memory) ts →
    (l : List PageItem) → card_of m (start memory) ts ≡ Card.level0 l → (spot : Spot) (π : List ℕ) (r : Reading) → read_filter m (page_bytes (run m (start memory) ts)) ≡ Ok r →
    (read_filter m (page_items_bytes (page_items_reordered spot π l)) ≡ Ok (reading_reordered spot π r)) × (counts (reading_reordered spot π r) ≡ counts r)

pub record PageLaws : Type 0 where
  pub a : PageIsItsCard
  pub b : EveryFilterIsAPage
  pub c : OrderIsFree
