use Rattle.std.proofs.Common.{◌≡◌, ◌≤◌, length, refl, arith}
use Rattle.tc_records.specs.Selectors.{selector_head, selector_form}
use Rattle.tc_records.proofs.Written.{none, more, written_front, written_length}
use Rattle.tc_records.proofs.selector.TcU32Selector.emit.Goals as goal

pub returns : goal.returns
returns c =
    let old = c.args.buffer.now in
    let s = c.args.self.now in
    let size : c.buffer_len-size.result ≡ length (selector_form s) = c.buffer_len-size.ensures in
    let room : length (selector_form s) ≤ length old = omega arith in
    let s₁ = more (none old) (selector_head s) 0 c.overwrite.ensures.after c.head_bytes-head.ensures refl (omega arith) in
    let s₂ = more s₁ s.keys.now 16 c.overwrite-2.ensures.after refl refl (omega arith) in
    record { value = written_length old old (selector_form s) room c.buffer_len-size.result size; after = written_front old _ (selector_form s) room s₂ }
