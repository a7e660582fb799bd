-- The kind of an action, from the kind texts that its walk finds. Assumes nothing.
use Rattle.std.specs.Prelude.{ℕ, ◌+◌, ◌-◌, ◌^◌, ◌<◌, min, List, ◌∷◌, length, Ok, Err, Result}
use Rattle.std.specs.Borrow.{Bor}
use Rattle.model.specs.Numbers.{Bytes}
use Rattle.model.specs.Attributes.{type_of}
use Rattle.model.specs.Faults.{fault, numbers, Read, ◌>>=◌}
use Rattle.model.specs.Walk.{Walked, walk}
use Rattle.model.specs.Book.{Meaning}
use Rattle.model.specs.Reading.{Action, each, kinds, the_kind, read_attribute}
use Rattle.model.specs.declared.fault.Fault.{Fault}
use Rattle.netlink.specs.declared.buffer.NlaBuffer.{NlaBuffer}
use Rattle.tc_filter.specs.declared.action.Seen.{Seen}
use Rattle.tc_filter.specs.declared.action.Seen.TheVariants.{Nothing, One, Several}
use Rattle.tc_filter.specs.declared.action.TcAction.{TcAction}

-- the place of the first byte in an attribute's payload: 4 behind its head (and drawn back where the payload would end beyond the largest number, which no attribute of a filter does)
abbrev pub place_inside : NlaBuffer → ℕ
place_inside b = min (b.place + (4 + length b.value.now)) (2 ^ 64 - 1) - length b.value.now

-- what the kinds still to come, after those seen, make of an action whose head stands at a place
abbrev pub after_those : (place : ℕ) → Seen → List Bytes → Read Bytes
after_those p Nothing l = the_kind p l
after_those p (One t) l = the_kind p (t.now ∷ l)
after_those p Several l = Err (fault 11 p 2)

abbrev pub kind_among : (place : ℕ) → Seen → Walked → Read Bytes
kind_among p seen w = kinds w >>= after_those p seen

-- an action as it was found: its tab, its kind text and its attributes' part
pub record ActionFound : Type 0 where
  pub tab : ℕ
  pub kind_text : Bytes
  pub place : ℕ
  pub part : Bytes

abbrev pub action_heard : Result TcAction Fault → Read ActionFound
action_heard (Ok a) = Ok (record { tab = a.tab; kind_text = a.kind.now; place = a.attributes.place; part = a.attributes.value.now })
action_heard (Err f) = Err (numbers f)

abbrev pub kind_heard : Result (Bor Bytes) Fault → Read Bytes
kind_heard (Ok t) = Ok t.now
kind_heard (Err f) = Err (numbers f)

-- the kind of an action: every kind text is read, and there must be just one
abbrev pub kind_found : NlaBuffer → Read Bytes
kind_found b = kinds (walk (place_inside b) b.value.now) >>= the_kind b.place

abbrev pub action_found : NlaBuffer → Read ActionFound
action_found b =
    kind_found b >>= λ k.
    Ok (record { tab = type_of b.word; kind_text = k; place = b.place; part = b.value.now })

-- an action that was found, with its attributes read with a book
abbrev pub action_on : Meaning → ActionFound → Read Action
action_on m f = each 3 (read_attribute m f.kind_text) (walk (f.place + 4) f.part) >>= λ l. Ok (record { tab = f.tab; kind_text = f.kind_text; attributes = l })

abbrev pub action_reads : Meaning → Result TcAction Fault → Read Action
action_reads m r = action_heard r >>= action_on m

-- an attribute whose payload ends at a place that the machine can tell, as every attribute of a filter
abbrev pub InMemory : NlaBuffer → Type 0
InMemory b = b.place + (4 + length b.value.now) < 2 ^ 64
