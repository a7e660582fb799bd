-- A filter's option and an action's attribute, by their types, read as the model reads them. Assumes nothing.
use Rattle.std.proofs.Common.{◌≡◌, ℕ, zero, suc, ◌/◌, ◌%◌, ◌<◌, false, eqb, get_or, Result, refl, ap, ◌∙◌, arith}
use Rattle.std.proofs.lemmas.Bool.{ne_eqb}
use Rattle.model.specs.Numbers.{Bytes}
use Rattle.model.specs.Attributes.{type_of}
use Rattle.model.specs.Faults.{◌>>=◌}
use Rattle.model.specs.Book.{Meaning}
use Rattle.model.specs.Reading.{FilterOption, hash, link, divisor, class_id, selector, flags, ActionAttribute, kind, index, in_hw_count, option_forms, OptionForm, read_option_as, read_option, attribute_forms, AttributeForm, as_default, read_as, read_attribute}
use Rattle.payload.specs.Errors.{Lack}
use Rattle.payload.specs.declared.error.DecodeError.{DecodeError}
use Rattle.netlink.specs.declared.buffer.NlaBuffer.{NlaBuffer}
use Rattle.tc_filter.specs.declared.cls_u32.TcFilterU32Option.{TcFilterU32Option}
use Rattle.tc_filter.specs.declared.action_attribute.TcActionAttribute.{TcActionAttribute}
use Rattle.tc_filter.specs.Places.{at_place}
use Rattle.tc_filter.specs.FilterOptions as options
use Rattle.tc_filter.specs.FilterOptions.{option_by, option_heard, option_reads}
use Rattle.tc_filter.specs.ActionAttributes as attributes
use Rattle.tc_filter.specs.ActionAttributes.{attribute_by, attribute_heard, attribute_reads}
use Rattle.tc_filter.proofs.Payloads.{number-reads, text-reads, selector-reads}

-- a type of 12 or more is none of those below
other : (t k : ℕ) → k < 12 → eqb (suc (suc (suc (suc (suc (suc (suc (suc (suc (suc (suc (suc t)))))))))))) k ≡ false
other t k h = ne_eqb (suc (suc (suc (suc (suc (suc (suc (suc (suc (suc (suc (suc t)))))))))))) k (λ q. omega arith)

module _ (m : Meaning) (b : NlaBuffer) where
  abbrev OptionAt : ℕ → Type 0
  OptionAt t = (at_place b.place 1 (option_by t b) >>= options.read_on m) ≡ read_option_as m (get_or option_forms t OptionForm.as_default) b.place b.word b.value.now

  abbrev NumberOption : (ℕ → FilterOption) → Type 0
  NumberOption f = (at_place b.place 1 (options.number_in f b.value.now) >>= options.read_on m) ≡ read_option_as m (OptionForm.as_u32 f) b.place b.word b.value.now

  by_number : (f : ℕ → FilterOption) → NumberOption f
  by_number f = number-reads b.place 1 b.value.now (λ n. options.whole (f n)) (options.read_on m)

  option_of : (t : ℕ) → OptionAt t
  option_of zero = refl
  option_of (suc zero) = number-reads b.place 1 b.value.now (λ n. options.whole (class_id (n / 65536) (n % 65536))) (options.read_on m)
  option_of (suc (suc zero)) = by_number hash
  option_of (suc (suc (suc zero))) = by_number link
  option_of (suc (suc (suc (suc zero)))) = by_number divisor
  option_of (suc (suc (suc (suc (suc zero))))) = selector-reads b.place b.value.now (λ s. options.whole (selector s)) (options.read_on m)
  option_of (suc (suc (suc (suc (suc (suc zero)))))) = refl
  option_of (suc (suc (suc (suc (suc (suc (suc zero))))))) = refl
  option_of (suc (suc (suc (suc (suc (suc (suc (suc zero)))))))) = refl
  option_of (suc (suc (suc (suc (suc (suc (suc (suc (suc zero))))))))) = refl
  option_of (suc (suc (suc (suc (suc (suc (suc (suc (suc (suc zero)))))))))) = refl
  option_of (suc (suc (suc (suc (suc (suc (suc (suc (suc (suc (suc zero))))))))))) = by_number flags
  option_of (suc (suc (suc (suc (suc (suc (suc (suc (suc (suc (suc (suc t)))))))))))) =
      rw (other t 1 (omega arith), other t 2 (omega arith), other t 3 (omega arith), other t 4 (omega arith), other t 5 (omega arith), other t 6 (omega arith), other t 7 (omega arith), other t 8 (omega arith), other t 9 (omega arith), other t 10 (omega arith), other t 11 (omega arith))

  pub option-as_read : (r : Result TcFilterU32Option DecodeError) → option_heard r ≡ option_by (type_of b.word) b → option_reads m b.place r ≡ read_option m b.place b.word b.value.now
  option-as_read r e = ap (λ (h : Result options.OptionRead Lack). at_place b.place 1 h >>= options.read_on m) e ∙ option_of (type_of b.word)

module _ (m : Meaning) (k : Bytes) (b : NlaBuffer) where
  abbrev AttributeAt : ℕ → Type 0
  AttributeAt t = (at_place b.place 3 (attribute_by t b) >>= attributes.read_on m k) ≡ read_as m (get_or attribute_forms t as_default) k b.place b.word b.value.now

  by_number-in_action : (f : ℕ → ActionAttribute) →
      (at_place b.place 3 (attributes.number_in f b.value.now) >>= attributes.read_on m k) ≡ read_as m (AttributeForm.as_u32 f) k b.place b.word b.value.now
  by_number-in_action f = number-reads b.place 3 b.value.now (λ n. attributes.whole (f n)) (attributes.read_on m k)

  attribute_of : (t : ℕ) → AttributeAt t
  attribute_of zero = refl
  attribute_of (suc zero) = text-reads b.place b.value.now (λ t. attributes.whole (kind t)) (attributes.read_on m k)
  attribute_of (suc (suc zero)) = refl
  attribute_of (suc (suc (suc zero))) = by_number-in_action index
  attribute_of (suc (suc (suc (suc zero)))) = refl
  attribute_of (suc (suc (suc (suc (suc zero))))) = refl
  attribute_of (suc (suc (suc (suc (suc (suc zero)))))) = refl
  attribute_of (suc (suc (suc (suc (suc (suc (suc zero))))))) = refl
  attribute_of (suc (suc (suc (suc (suc (suc (suc (suc zero)))))))) = refl
  attribute_of (suc (suc (suc (suc (suc (suc (suc (suc (suc zero))))))))) = refl
  attribute_of (suc (suc (suc (suc (suc (suc (suc (suc (suc (suc zero)))))))))) = by_number-in_action in_hw_count
  attribute_of (suc (suc (suc (suc (suc (suc (suc (suc (suc (suc (suc zero))))))))))) = refl
  attribute_of (suc (suc (suc (suc (suc (suc (suc (suc (suc (suc (suc (suc t)))))))))))) =
      rw (other t 1 (omega arith), other t 2 (omega arith), other t 3 (omega arith), other t 4 (omega arith), other t 6 (omega arith), other t 10 (omega arith))

  pub attribute-as_read : (r : Result TcActionAttribute DecodeError) → attribute_heard r ≡ attribute_by (type_of b.word) b → attribute_reads m k b.place r ≡ read_attribute m k b.place b.word b.value.now
  attribute-as_read r e = ap (λ (h : Result attributes.AttributeRead Lack). at_place b.place 3 h >>= attributes.read_on m k) e ∙ attribute_of (type_of b.word)
