use Rattle.std.proofs.Common.{◌≡◌, ◌+◌, ◌*◌, ◌++◌, length, take}
use Rattle.hextext.specs.Digits.{bytes_of}
use Rattle.ihex.proofs.pairs.Pairs.write.Given as goal

abbrev pub invariant-pairs : goal.invariant-pairs
invariant-pairs l =
    (length l.rest.digits.now + 2 * l.byte-index ≡ 2 * length l.part)
    × (take l.byte-index l.part ++ bytes_of l.rest.digits.now ≡ bytes_of l.self.digits.now)
