use Rattle.std.proofs.Common.{w64}
use Rattle.std.proofs.lemmas.Nat.Bits.{bit_at_set_same, bit_at_set_other}
use Rattle.worker_table.proofs.bits.with_bit.Goals as goal

-- src/bits.rt:19:1
pub returns : goal.returns
returns c = record {
  value_is = bit_at_set_same w64 c.args.word c.args.bit c.requires;
  others = λ i within apart. bit_at_set_other w64 c.args.word c.args.bit c.requires i apart;
}
