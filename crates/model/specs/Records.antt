-- The six records: their fields, which bytes hold them, and the bytes written. Assumes nothing.
use Rattle.std.specs.Prelude.{◌≡◌, ℕ, ◌≤◌, ◌++◌, length, take, ℤ}
use Rattle.model.specs.Numbers.{Bytes, Octets, le, be, signed, le_bytes, be_bytes, signed_bytes}

pub record Key : Type 0 where
  pub mask : ℕ
  pub val : ℕ
  pub off : ℤ
  pub offmask : ℤ

pub record Generic : Type 0 where
  pub index : ℕ
  pub capab : ℕ
  pub action : ℤ
  pub refcnt : ℤ
  pub bindcnt : ℤ

pub record TunnelKey : Type 0 where
  pub common : Generic
  pub t_action : ℤ

pub record Mirror : Type 0 where
  pub common : Generic
  pub eaction : ℤ
  pub ifindex : ℕ

pub record Times : Type 0 where
  pub install : ℕ
  pub lastuse : ℕ
  pub expires : ℕ
  pub firstuse : ℕ

pub record Nat : Type 0 where
  pub common : Generic
  pub old_addr : ℕ
  pub new_addr : ℕ
  pub mask : ℕ
  pub flags : ℕ

-- A record type: its size, what bytes mean, and what is written.
pub record Layout (R : Type 0) : Type 0 where
  pub size : ℕ
  pub decode : Bytes → R
  pub encode : R → Bytes

-- its law: of at least `size` bytes, writing gives back the first `size`
abbrev pub Lawful : {R : Type 0} → Layout R → Type 0
Lawful l = (bs : Bytes) → Octets bs → l.size ≤ length bs → l.encode (l.decode bs) ≡ take l.size bs

abbrev pub key : Layout Key
key = record {
  size = 16;
  decode = λ bs. record { mask = be 0 4 bs; val = be 4 4 bs; off = signed 8 4 bs; offmask = signed 12 4 bs };
  encode = λ k. be_bytes 4 k.mask ++ (be_bytes 4 k.val ++ (signed_bytes 4 k.off ++ signed_bytes 4 k.offmask));
}

abbrev pub generic : Layout Generic
generic = record {
  size = 20;
  decode = λ bs. record { index = le 0 4 bs; capab = le 4 4 bs; action = signed 8 4 bs; refcnt = signed 12 4 bs; bindcnt = signed 16 4 bs };
  encode = λ g. le_bytes 4 g.index ++ (le_bytes 4 g.capab ++ (signed_bytes 4 g.action ++ (signed_bytes 4 g.refcnt ++ signed_bytes 4 g.bindcnt)));
}

abbrev pub tunnel_key : Layout TunnelKey
tunnel_key = record {
  size = 24;
  decode = λ bs. record { common = generic.decode bs; t_action = signed 20 4 bs };
  encode = λ t. generic.encode t.common ++ signed_bytes 4 t.t_action;
}

abbrev pub mirror : Layout Mirror
mirror = record {
  size = 28;
  decode = λ bs. record { common = generic.decode bs; eaction = signed 20 4 bs; ifindex = le 24 4 bs };
  encode = λ m. generic.encode m.common ++ (signed_bytes 4 m.eaction ++ le_bytes 4 m.ifindex);
}

abbrev pub times : Layout Times
times = record {
  size = 32;
  decode = λ bs. record { install = le 0 8 bs; lastuse = le 8 8 bs; expires = le 16 8 bs; firstuse = le 24 8 bs };
  encode = λ t. le_bytes 8 t.install ++ (le_bytes 8 t.lastuse ++ (le_bytes 8 t.expires ++ le_bytes 8 t.firstuse));
}

abbrev pub nat : Layout Nat
nat = record {
  size = 36;
  decode = λ bs. record { common = generic.decode bs; old_addr = be 20 4 bs; new_addr = be 24 4 bs; mask = be 28 4 bs; flags = le 32 4 bs };
  encode = λ n. generic.encode n.common ++ (be_bytes 4 n.old_addr ++ (be_bytes 4 n.new_addr ++ (be_bytes 4 n.mask ++ le_bytes 4 n.flags)));
}

abbrev pub RecordsLawful : Type 0
RecordsLawful = Lawful key × Lawful generic × Lawful tunnel_key × Lawful mirror × Lawful times × Lawful nat
