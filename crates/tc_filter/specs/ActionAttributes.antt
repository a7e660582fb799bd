-- What an attribute of an action reads as, as far as no book is asked. Assumes nothing.
use Rattle.std.specs.Prelude.{◌≡◌, ℕ, ◌+◌, ◌≤◌, cond, length, Ok, Err, Result, ◌==◌}
use Rattle.model.specs.Numbers.{Bytes, le}
use Rattle.model.specs.Faults.{cause_number, Read, ◌>>=◌}
use Rattle.model.specs.Walk.{walk}
use Rattle.model.specs.Book.{Meaning}
use Rattle.model.specs.Reading.{ActionAttribute, kind, options, index, stats, cookie, in_hw_count, other, each, as_read}
use Rattle.payload.specs.Errors.{Lack, lack}
use Rattle.payload.specs.Payloads.{exactly}
use Rattle.payload.specs.Texts.{text_in}
use Rattle.payload.specs.declared.error.DecodeError.{DecodeError}
use Rattle.netlink.specs.declared.buffer.NlaBuffer.{NlaBuffer}
use Rattle.tc_options.specs.Carried.{carried}
use Rattle.tc_filter.specs.Places.{at_place}
use Rattle.tc_filter.specs.declared.action_attribute.TcActionAttribute.{TcActionAttribute}
use Rattle.tc_filter.specs.declared.action_attribute.TcActionAttribute.TheVariants.{Kind, Options, Index, Stats, Cookie, InHwCount, Other}

-- an attribute that is read whole, or a list of options, of which its book is still to be asked
pub data AttributeRead : Type 0 where
  whole : ActionAttribute → AttributeRead
  options_at : (place : ℕ) → Bytes → AttributeRead

abbrev pub attribute_meant : TcActionAttribute → AttributeRead
attribute_meant (Kind t) = whole (kind t.now)
attribute_meant (Options b) = options_at b.place b.value.now
attribute_meant (Index n) = whole (index n)
attribute_meant (Stats x) = whole (stats x.now)
attribute_meant (Cookie x) = whole (cookie x.now)
attribute_meant (InHwCount n) = whole (in_hw_count n)
attribute_meant (Other a) = whole (other a.word a.value.now)

abbrev pub attribute_heard : Result TcActionAttribute DecodeError → Result AttributeRead Lack
attribute_heard (Ok o) = Ok (attribute_meant o)
attribute_heard (Err e) = Err (lack (cause_number e.cause) e.need)

-- the options, judged by a book under the action's kind
abbrev pub read_on : Meaning → (kind_text : Bytes) → AttributeRead → Read ActionAttribute
read_on m k (whole a) = Ok a
read_on m k (options_at p x) = each 4 (λ q v y. as_read q (m k v y)) (walk (p + 4) x) >>= λ l. Ok (options l)

-- what an attribute that was parsed reads as, at its place
abbrev pub attribute_reads : Meaning → (kind_text : Bytes) → (place : ℕ) → Result TcActionAttribute DecodeError → Read ActionAttribute
attribute_reads m k p r = at_place p 3 (attribute_heard r) >>= read_on m k

-- What is not a number is a part of the filter: the attribute's payload, or the attribute itself where its payload is a list of options.
-- A kind is no longer than the payload.
abbrev pub PartOf : NlaBuffer → TcActionAttribute → Type 0
PartOf b (Kind t) = length t.now ≤ length b.value.now
PartOf b (Options a) = a ≡ b
PartOf b (Index n) = Unit {0}
PartOf b (Stats x) = x ≡ b.value
PartOf b (Cookie x) = x ≡ b.value
PartOf b (InHwCount n) = Unit {0}
PartOf b (Other a) = a.value ≡ b.value

abbrev pub number_in : (ℕ → ActionAttribute) → Bytes → Result AttributeRead Lack
number_in f x = carried (λ n. whole (f n)) (exactly 4 (le 0 4) x)

-- by its type
abbrev pub attribute_by : (type : ℕ) → NlaBuffer → Result AttributeRead Lack
attribute_by t b =
    cond (t == 1) (carried (λ k. whole (kind k)) (text_in b.value.now))
    (cond (t == 2) (Ok (options_at b.place b.value.now))
    (cond (t == 3) (number_in index b.value.now)
    (cond (t == 4) (Ok (whole (stats b.value.now)))
    (cond (t == 6) (Ok (whole (cookie b.value.now)))
    (cond (t == 10) (number_in in_hw_count b.value.now)
    (Ok (whole (other b.word b.value.now))))))))
