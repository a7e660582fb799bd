-- What a step of each cursor gave, read on with a book. Assumes nothing.
use Rattle.std.specs.Prelude.{ℕ, length, Some, None, Ok, Err, Option, Result}
use Rattle.model.specs.Numbers.{Bytes}
use Rattle.model.specs.Faults.{numbers, layer_number, Read, ◌>>=◌}
use Rattle.model.specs.Walk.{Walked}
use Rattle.model.specs.Book.{Meaning, Judgement, written_as}
use Rattle.model.specs.Reading.{ActionAttribute, FilterOption, as_read}
use Rattle.model.specs.declared.fault.Fault.{Fault}
use Rattle.netlink.specs.declared.buffer.NlaBuffer.{NlaBuffer}
use Rattle.netlink.specs.declared.walker.NlasIterator.{NlasIterator}
use Rattle.netlink.specs.Walking.{ahead}
use Rattle.tc_filter.specs.FilterOptions as options
use Rattle.tc_filter.specs.FilterOptions.{option_meant}
use Rattle.tc_filter.specs.ActionAttributes as attributes
use Rattle.tc_filter.specs.ActionAttributes.{attribute_meant}
use Rattle.tc_filter.specs.declared.cls_u32.TcFilterU32Option.{TcFilterU32Option}
use Rattle.tc_filter.specs.declared.action_attribute.TcActionAttribute.{TcActionAttribute}
use Rattle.cursors.specs.declared.action_options.JudgedOption.{JudgedOption}
use Rattle.cursors.specs.Steps.{Step, ended, reads, next_of}

-- ── options of a filter ──
abbrev pub option_heard : Meaning → Result TcFilterU32Option Fault → Read FilterOption
option_heard m (Ok o) = options.read_on m (option_meant o)
option_heard m (Err f) = Err (numbers f)

-- ── attributes of an action ──
abbrev pub attribute_heard : Meaning → (kind_text : Bytes) → Result TcActionAttribute Fault → Read ActionAttribute
attribute_heard m k (Ok a) = attributes.read_on m k (attribute_meant a)
attribute_heard m k (Err f) = Err (numbers f)

-- ── options of an action ──
-- the word and payload length that its book writes of an option, or the book's refusal at the option's place
abbrev pub judged_as : Meaning → (kind_text : Bytes) → ℕ → ℕ → Bytes → Read Judgement
judged_as m k p w x = as_read p (m k w x) >>= λ a. Ok (written_as a.word (length a.payload))

abbrev pub judged_heard : Result JudgedOption Fault → Read Judgement
judged_heard (Ok o) = Ok (written_as o.judged.word o.judged.length)
judged_heard (Err f) = Err (numbers f)

-- ── any of them ──
-- the attribute that a walk found reads by f, or its head's fault is the answer
abbrev pub found_reads : {A : Type 0} → (ℕ → ℕ → Bytes → Read A) → Result NlaBuffer Fault → Read A
found_reads f (Ok a) = f a.place a.word a.value.now
found_reads f (Err e) = Err (numbers e)

-- what a call gave, with the walk over what is left then
abbrev pub given : {A B : Type 0} → (B → Read A) → Option B → Walked → Step A
given heard None rest = ended
given heard (Some r) rest = reads (heard r) rest

-- the next of what a walk has ahead
abbrev pub step_of : {A : Type 0} → (ℕ → ℕ → Bytes → Read A) → NlasIterator → Step A
step_of f s = next_of (layer_number s.layer) f (ahead s)
