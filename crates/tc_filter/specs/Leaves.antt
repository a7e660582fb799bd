-- What is written of an option or attribute, or the part of the filter that is still to be read and written with a book. Assumes nothing.
use Rattle.std.specs.Prelude.{ℕ, ◌+◌, ◌*◌, [], ◌∷◌, ◌++◌}
use Rattle.model.specs.Numbers.{Bytes, le_bytes}
use Rattle.model.specs.Attributes.{Attribute, attribute}
use Rattle.tc_records.specs.Selectors.{selector_form}
use Rattle.tc_filter.specs.declared.cls_u32.TcFilterU32Option.{TcFilterU32Option}
use Rattle.tc_filter.specs.declared.cls_u32.TcFilterU32Option.TheVariants as option
use Rattle.tc_filter.specs.declared.action_attribute.TcActionAttribute.{TcActionAttribute}
use Rattle.tc_filter.specs.declared.action_attribute.TcActionAttribute.TheVariants as attr
use Rattle.tc_filter.specs.declared.leaf.Leaf.{Leaf}
use Rattle.tc_filter.specs.declared.leaf.Leaf.TheVariants as leaf
use Rattle.tc_filter.specs.declared.content.Content.{Content}
use Rattle.tc_filter.specs.declared.content.Content.TheVariants as content

abbrev pub leaf_word : Leaf → ℕ
leaf_word (leaf.Number w n) = w
leaf_word (leaf.Kind t) = 1
leaf_word (leaf.Selector s) = 5
leaf_word (leaf.Bytes a) = a.word

abbrev pub leaf_payload : Leaf → Bytes
leaf_payload (leaf.Number w n) = le_bytes 4 n
leaf_payload (leaf.Kind t) = t.now ++ 0 ∷ []
leaf_payload (leaf.Selector s) = selector_form s
leaf_payload (leaf.Bytes a) = a.value.now

-- an attribute that is written as it is, or the place and payload of one with attributes inside
pub data Inside : Type 0 where
  lone : Attribute → Inside
  row_at : (place : ℕ) → Bytes → Inside

abbrev pub content_meant : Content → Inside
content_meant (content.Leaf v) = lone (attribute (leaf_word v) (leaf_payload v))
content_meant (content.Nest b) = row_at b.place b.value.now

abbrev pub attribute_content : TcActionAttribute → Inside
attribute_content (attr.Kind t) = lone (attribute 1 (t.now ++ 0 ∷ []))
attribute_content (attr.Options b) = row_at b.place b.value.now
attribute_content (attr.Index n) = lone (attribute 3 (le_bytes 4 n))
attribute_content (attr.Stats x) = lone (attribute 4 x.now)
attribute_content (attr.Cookie x) = lone (attribute 6 x.now)
attribute_content (attr.InHwCount n) = lone (attribute 10 (le_bytes 4 n))
attribute_content (attr.Other a) = lone (attribute a.word a.value.now)

abbrev pub option_content : TcFilterU32Option → Inside
option_content (option.ClassId h) = lone (attribute 1 (le_bytes 4 (h.major * 65536 + h.minor)))
option_content (option.Hash n) = lone (attribute 2 (le_bytes 4 n))
option_content (option.Link n) = lone (attribute 3 (le_bytes 4 n))
option_content (option.Divisor n) = lone (attribute 4 (le_bytes 4 n))
option_content (option.Selector s) = lone (attribute 5 (selector_form s))
option_content (option.Police x) = lone (attribute 6 x.now)
option_content (option.Action b) = row_at b.place b.value.now
option_content (option.Indev x) = lone (attribute 8 x.now)
option_content (option.Pnct x) = lone (attribute 9 x.now)
option_content (option.Mark x) = lone (attribute 10 x.now)
option_content (option.Flags n) = lone (attribute 11 (le_bytes 4 n))
option_content (option.Other a) = lone (attribute a.word a.value.now)
