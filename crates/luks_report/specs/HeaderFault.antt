-- Why no header was read, in words.
use Rattle.std.specs.Prelude.{ℕ, List, codes}
use Rattle.luks_format.specs.declared.fault.HeaderFault.{HeaderFault}
use Rattle.luks_format.specs.declared.fault.HeaderFault.TheVariants.{NotLuks, Cut, Json, Read, Memory}

-- as luksrd and the library for C say it, without a newline
abbrev pub fault_sentence : HeaderFault → List ℕ
fault_sentence NotLuks = codes "luksrd: not a LUKS image"
fault_sentence Cut = codes "luksrd: image ends inside the header or a key area"
fault_sentence Json = codes "luksrd: LUKS2 JSON area is not readable"
fault_sentence Read = codes "luksrd: read failed"
fault_sentence Memory = codes "luksrd: out of memory"

-- as luksrd-audit lists it
abbrev pub fault_listed : HeaderFault → List ℕ
fault_listed NotLuks = codes "no LUKS header"
fault_listed Cut = codes "header is truncated"
fault_listed Json = codes "JSON area cannot be read"
fault_listed Read = codes "read failed"
fault_listed Memory = codes "out of memory"
