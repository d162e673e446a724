-- What the byte swap instructions give (RFC 9669 section 4.2), on a little-endian host.
use Rattle.std.specs.Prelude.{ℕ, ◌%◌, ◌^◌}
use Rattle.std.specs.Int.{Width, w16, w32, w64, to_le_bytes, from_be_bytes}
use Rattle.bpf_words.specs.declared.operation.ByteOrder.{ByteOrder}
use Rattle.bpf_words.specs.declared.operation.ByteOrder.TheVariants.{Little, Big, Swap}
use Rattle.bpf_words.specs.declared.operation.EndWidth.{EndWidth}
use Rattle.bpf_words.specs.declared.operation.EndWidth.TheVariants.{Low16, Low32, Low64}

-- how many low bits the instruction takes
abbrev pub end_bits : EndWidth → ℕ
end_bits Low16 = 16
end_bits Low32 = 32
end_bits Low64 = 64

-- the number type of these bits
abbrev pub end_type : EndWidth → Width
end_type Low16 = w16
end_type Low32 = w32
end_type Low64 = w64

-- the number whose bytes, the highest first, are the low bytes of a, the lowest first
abbrev pub byte_reversal : EndWidth → ℕ → ℕ
byte_reversal width a = from_be_bytes (end_type width) (to_le_bytes (end_type width) a)

-- what the instruction gives (RFC 9669 section 4.2)
unfoldable pub end_value : ByteOrder → EndWidth → ℕ → ℕ
end_value Little width a = a % 2 ^ end_bits width
end_value Big width a = byte_reversal width a
end_value Swap width a = byte_reversal width a
