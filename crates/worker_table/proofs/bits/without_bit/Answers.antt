use Rattle.std.proofs.Common.{w64}
use Rattle.std.proofs.lemmas.Nat.Bits.{bit_at_clear_same, bit_at_clear_other}
use Rattle.worker_table.proofs.bits.without_bit.Goals as goal

-- src/bits.rt:27:1
pub returns : goal.returns
returns c = record {
  value_is = bit_at_clear_same w64 c.args.word c.args.bit c.requires;
  others = λ i within apart. bit_at_clear_other w64 c.args.word c.args.bit c.requires i within apart;
}
