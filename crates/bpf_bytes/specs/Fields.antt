-- A slot's eight bytes and its fields: the opcode; the registers, the destination in the low four
-- bits; the offset and the immediate, both signed, the least byte first (RFC 9669 section 3.1).
use Rattle.std.specs.Prelude.{ℕ, ◌+◌, ◌*◌, ◌/◌, ◌%◌, List, [], ◌∷◌, ◌++◌, slice_index}
use Rattle.std.specs.Int.{w16, w32, cast_signed, cast_unsigned}
use Rattle.byteorder.specs.Endian.{little_bytes, little_from}
use Rattle.bpf_bytes.specs.declared.fields.Fields.{Fields}

abbrev pub bytes_of : Fields → List ℕ
bytes_of f =
    (f.opcode ∷ (f.dst + 16 * f.src) ∷ [])
    ++ little_bytes 2 (cast_unsigned w16 f.offset)
    ++ little_bytes 4 (cast_unsigned w32 f.immediate)

abbrev pub fields_of_bytes : List ℕ → Fields
fields_of_bytes bytes = record {
  opcode = slice_index bytes 0;
  dst = slice_index bytes 1 % 16;
  src = slice_index bytes 1 / 16;
  offset = cast_signed w16 (little_from 2 2 bytes);
  immediate = cast_signed w32 (little_from 4 4 bytes);
}

-- the fields of each eight bytes
unfoldable pub slots_of : List ℕ → List Fields
slots_of (a ∷ b ∷ c ∷ d ∷ e ∷ f ∷ g ∷ h ∷ rest) = fields_of_bytes (a ∷ b ∷ c ∷ d ∷ e ∷ f ∷ g ∷ h ∷ []) ∷ slots_of rest
slots_of _ = []
