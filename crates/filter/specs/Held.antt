-- What an option or attribute was found to hold, and that this is a part of it. Assumes nothing.
use Rattle.std.specs.Prelude.{◌≡◌, ◌+◌, ◌*◌, ◌≤◌, length, Ok, Err, Result}
use Rattle.model.specs.Attributes.{rounded}
use Rattle.model.specs.Faults.{numbers, Read}
use Rattle.model.specs.declared.fault.Fault.{Fault}
use Rattle.netlink.specs.declared.buffer.NlaBuffer.{NlaBuffer}
use Rattle.tc_filter.specs.declared.content.Content.{Content}
use Rattle.tc_filter.specs.Leaves.{Inside, lone, row_at, content_meant}

abbrev pub content_heard : Result Content Fault → Read Inside
content_heard (Ok c) = Ok (content_meant c)
content_heard (Err f) = Err (numbers f)

-- What stands inside an attribute of a filter: all of its payload where that is a row of attributes. What is written of one with no attributes inside
-- is at most twice as long as the attribute, head included: a kind gains one byte, and each attribute at most 3 of padding.
abbrev pub HeldBy : NlaBuffer → Inside → Type 0
HeldBy b (lone a) = 4 + rounded (length a.payload) ≤ 2 * (4 + length b.value.now)
HeldBy b (row_at p x) = (p ≡ b.place) × (x ≡ b.value.now)
