-- What the walker finds is what the model's walk finds, head by head. Assumes nothing.
use Rattle.std.specs.Prelude.{◌≡◌, ℕ, ◌+◌, ◌-◌, ◌<◌, ◌≤◌, [], length, Some, None, Ok, Err, Option, Result}
use Rattle.model.specs.Numbers.{Bytes}
use Rattle.model.specs.Faults.{fault, numbers, layer_number}
use Rattle.model.specs.Walk.{Walked, done, bad, item, walk}
use Rattle.model.specs.declared.fault.Fault.{Fault}
use Rattle.netlink.specs.declared.buffer.NlaBuffer.{NlaBuffer}
use Rattle.netlink.specs.declared.walker.NlasIterator.{NlasIterator}
use Rattle.netlink.specs.declared.walker.walking.Found.{Found}

-- what the front of bytes at a place was found to be
abbrev pub Meets : (place layer : ℕ) → Bytes → Result (Option Found) Fault → Type 0
Meets p l bs (Ok None) = walk p bs ≡ done
Meets p l bs (Ok (Some a)) =
    (walk p bs ≡ item p a.word a.value.now (walk (p + (length bs - length a.rest.now)) a.rest.now))
    × (4 + length a.value.now ≤ length bs) × (length a.rest.now < length bs)
Meets p l bs (Err f) = (walk p bs ≡ bad (numbers f).cause p) × (numbers f ≡ fault (numbers f).cause p l)

-- the place of what is left
abbrev pub place_ahead : NlasIterator → ℕ
place_ahead s = s.end - length s.rest.now

-- the walk over what is left
abbrev pub ahead : NlasIterator → Walked
ahead s = walk (place_ahead s) s.rest.now

-- one call of `next`: the walk ends; or finds this attribute, and goes on with what is left then; or has this fault, and nothing is left
abbrev pub Goes : NlasIterator → Option (Result NlaBuffer Fault) → NlasIterator → Type 0
Goes s None t = (ahead s ≡ done) × (t ≡ s)
Goes s (Some (Ok a)) t =
    (ahead s ≡ item a.place a.word a.value.now (ahead t)) × (a.place + (4 + length a.value.now) ≤ s.end) × (t.end ≡ s.end) × (t.layer ≡ s.layer)
Goes s (Some (Err f)) t =
    (ahead s ≡ bad (numbers f).cause (place_ahead s)) × (numbers f ≡ fault (numbers f).cause (place_ahead s) (layer_number s.layer))
    × (t.rest.now ≡ []) × (t.end ≡ s.end) × (t.layer ≡ s.layer)
