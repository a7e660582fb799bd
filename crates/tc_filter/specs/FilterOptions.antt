-- What an option of a filter reads as, as far as no book is asked. Assumes nothing.
use Rattle.std.specs.Prelude.{◌≡◌, ℕ, ◌+◌, ◌/◌, ◌%◌, ◌≤◌, cond, length, Ok, Err, Result, ◌==◌}
use Rattle.model.specs.Numbers.{Bytes, le}
use Rattle.model.specs.Faults.{cause_number, Read, ◌>>=◌}
use Rattle.model.specs.Walk.{walk}
use Rattle.model.specs.Book.{Meaning}
use Rattle.model.specs.Selector.{encode}
use Rattle.model.specs.Reading.{FilterOption, class_id, hash, link, divisor, selector, police, actions, indev, pcnt, mark, flags, default, each, read_action}
use Rattle.payload.specs.Errors.{Lack, lack}
use Rattle.payload.specs.Payloads.{exactly}
use Rattle.payload.specs.declared.error.DecodeError.{DecodeError}
use Rattle.netlink.specs.declared.buffer.NlaBuffer.{NlaBuffer}
use Rattle.tc_records.specs.Selectors.{as_selector, selector_form, selector_in}
use Rattle.tc_options.specs.Carried.{carried}
use Rattle.tc_filter.specs.Places.{at_place}
use Rattle.tc_filter.specs.declared.cls_u32.TcFilterU32Option.{TcFilterU32Option}
use Rattle.tc_filter.specs.declared.cls_u32.TcFilterU32Option.TheVariants.{ClassId, Hash, Link, Divisor, Selector, Police, Action, Indev, Pnct, Mark, Flags, Other}

-- an option that is read whole, or a list of actions, of which its book is still to be asked
pub data OptionRead : Type 0 where
  whole : FilterOption → OptionRead
  list_at : (place : ℕ) → Bytes → OptionRead

abbrev pub option_meant : TcFilterU32Option → OptionRead
option_meant (ClassId h) = whole (class_id h.major h.minor)
option_meant (Hash n) = whole (hash n)
option_meant (Link n) = whole (link n)
option_meant (Divisor n) = whole (divisor n)
option_meant (Selector s) = whole (selector (as_selector s))
option_meant (Police x) = whole (police x.now)
option_meant (Action b) = list_at b.place b.value.now
option_meant (Indev x) = whole (indev x.now)
option_meant (Pnct x) = whole (pcnt x.now)
option_meant (Mark x) = whole (mark x.now)
option_meant (Flags n) = whole (flags n)
option_meant (Other a) = whole (default a.word a.value.now)

abbrev pub option_heard : Result TcFilterU32Option DecodeError → Result OptionRead Lack
option_heard (Ok o) = Ok (option_meant o)
option_heard (Err e) = Err (lack (cause_number e.cause) e.need)

-- the list of actions, read with a book
abbrev pub read_on : Meaning → OptionRead → Read FilterOption
read_on m (whole o) = Ok o
read_on m (list_at p x) = each 2 (read_action m) (walk (p + 4) x) >>= λ l. Ok (actions l)

-- what an option that was parsed reads as, at its place
abbrev pub option_reads : Meaning → (place : ℕ) → Result TcFilterU32Option DecodeError → Read FilterOption
option_reads m p r = at_place p 1 (option_heard r) >>= read_on m

-- What is not a number is a part of the filter: the attribute's payload, or the attribute itself where its payload is a list of actions.
-- A selector is written as its form, which is no longer than the payload.
abbrev pub PartOf : NlaBuffer → TcFilterU32Option → Type 0
PartOf b (ClassId h) = Unit {0}
PartOf b (Hash n) = Unit {0}
PartOf b (Link n) = Unit {0}
PartOf b (Divisor n) = Unit {0}
PartOf b (Selector s) = (selector_form s ≡ encode (as_selector s)) × (length (selector_form s) ≤ length b.value.now)
PartOf b (Police x) = x ≡ b.value
PartOf b (Action a) = a ≡ b
PartOf b (Indev x) = x ≡ b.value
PartOf b (Pnct x) = x ≡ b.value
PartOf b (Mark x) = x ≡ b.value
PartOf b (Flags n) = Unit {0}
PartOf b (Other a) = a.value ≡ b.value

abbrev pub number_in : (ℕ → FilterOption) → Bytes → Result OptionRead Lack
number_in f x = carried (λ n. whole (f n)) (exactly 4 (le 0 4) x)

-- by its type
abbrev pub option_by : (type : ℕ) → NlaBuffer → Result OptionRead Lack
option_by t b =
    cond (t == 1) (number_in (λ n. class_id (n / 65536) (n % 65536)) b.value.now)
    (cond (t == 2) (number_in hash b.value.now)
    (cond (t == 3) (number_in link b.value.now)
    (cond (t == 4) (number_in divisor b.value.now)
    (cond (t == 5) (carried (λ s. whole (selector s)) (selector_in b.value.now))
    (cond (t == 6) (Ok (whole (police b.value.now)))
    (cond (t == 7) (Ok (list_at b.place b.value.now))
    (cond (t == 8) (Ok (whole (indev b.value.now)))
    (cond (t == 9) (Ok (whole (pcnt b.value.now)))
    (cond (t == 10) (Ok (whole (mark b.value.now)))
    (cond (t == 11) (number_in flags b.value.now)
    (Ok (whole (default b.word b.value.now)))))))))))))
