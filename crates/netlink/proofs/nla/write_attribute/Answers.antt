use Rattle.std.proofs.Common.{◌≡◌, ◌+◌, ◌-◌, min, [], ◌∷◌, length, take, refl, ◌∙◌, arith, length-take}
use Rattle.model.specs.Numbers.{Bytes}
use Rattle.model.specs.Attributes.{head}
use Rattle.model.specs.Page.{over}
use Rattle.netlink.proofs.Forms.{leaves}
use Rattle.netlink.proofs.Overwrites.{fitted}
use Rattle.netlink.proofs.nla.write_attribute.Goals as goal

pub returns : goal.returns
returns g c =
    let w = g.T.Nla.word c.args.nla.now in
    let x = g.T.Nla.payload c.args.nla.now in
    let size : c.value_len-end.result ≡ length x = c.value_len-end.ensures in
    let word : c.kind.result ≡ w = c.kind.ensures in
    let first = fitted c.args.buffer.now 0 c.head-head.result c.overwrite.new.buffer c.overwrite.ensures.after (omega arith) in
    let zeros : Bytes = take (c.args.size - (4 + c.value_len-end.result) - 0) (0 ∷ 0 ∷ 0 ∷ []) in
    let few : length zeros ≡ min (c.args.size - (4 + c.value_len-end.result) - 0) 3 = length-take (c.args.size - (4 + c.value_len-end.result) - 0) (0 ∷ 0 ∷ 0 ∷ []) in
    let last : c.overwrite-2.new.buffer ≡ over c.write_payload.new.buffer (4 + c.value_len-end.result) zeros =
    fitted c.write_payload.new.buffer (4 + c.value_len-end.result) zeros c.overwrite-2.new.buffer c.overwrite-2.ensures.after (omega arith) in
    leaves w x c.args.size c.args.buffer.now c.requires.short c.requires.whole c.requires.room
    c.head-head.result c.overwrite.new.buffer c.write_payload.new.buffer c.overwrite-2.new.buffer 4 (4 + c.value_len-end.result) _
    (c.head-head.ensures ∙ (λ i. head (4 + size i) (word i))) first c.write_payload.ensures last
    refl (omega arith) refl
