-- One call of each cursor. Assumes nothing.
use Rattle.std.specs.Prelude.{◌≡◌, ℕ, length, Option, Result}
use Rattle.model.specs.Numbers.{Bytes}
use Rattle.model.specs.Book.{Meaning}
use Rattle.model.specs.Reading.{read_option, read_action, read_attribute}
use Rattle.model.specs.declared.fault.Fault.{Fault}
use Rattle.netlink.specs.declared.walker.NlasIterator.{NlasIterator}
use Rattle.netlink.specs.Walking.{ahead}
use Rattle.tc_filter.specs.declared.cls_u32.TcFilterU32Option.{TcFilterU32Option}
use Rattle.tc_filter.specs.Kinds.{action_reads}
use Rattle.tc_filter.specs.declared.action.TcAction.{TcAction}
use Rattle.tc_filter.specs.declared.action_attribute.TcActionAttribute.{TcActionAttribute}
use Rattle.cursors.specs.declared.action_options.JudgedOption.{JudgedOption}
use Rattle.cursors.specs.Heard.{option_heard, attribute_heard, judged_heard, judged_as, given, step_of}

-- the walk goes on within its part, in its layer
abbrev pub Stays : NlasIterator → NlasIterator → Type 0
Stays s t = (t.end ≡ s.end) × (t.layer ≡ s.layer)

-- the model's reading of the next option, with every book; and then what is left
abbrev pub OptionStep : NlasIterator → Option (Result TcFilterU32Option Fault) → NlasIterator → Type 0
OptionStep s r t = ((m : Meaning) → given (option_heard m) r (ahead t) ≡ step_of (read_option m) s) × Stays s t

-- of the next action
abbrev pub ActionStep : NlasIterator → Option (Result TcAction Fault) → NlasIterator → Type 0
ActionStep s r t = ((m : Meaning) → given (action_reads m) r (ahead t) ≡ step_of (read_action m) s) × Stays s t

-- of the next attribute, with every kind
abbrev pub AttributeStep : NlasIterator → Option (Result TcActionAttribute Fault) → NlasIterator → Type 0
AttributeStep s r t = ((m : Meaning) (k : Bytes) → given (attribute_heard m k) r (ahead t) ≡ step_of (read_attribute m k) s) × Stays s t

-- and the book's judgement of the next option
abbrev pub JudgedStep : Meaning → (kind_text : Bytes) → NlasIterator → Option (Result JudgedOption Fault) → NlasIterator → Type 0
JudgedStep m k s r t = (given judged_heard r (ahead t) ≡ step_of (judged_as m k) s) × Stays s t

abbrev pub left_of : NlasIterator → ℕ
left_of s = length s.rest.now
