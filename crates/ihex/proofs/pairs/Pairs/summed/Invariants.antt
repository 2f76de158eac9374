use Rattle.std.proofs.Common.{◌≡◌, ◌+◌, ◌%◌, ◌<◌, length, sum}
use Rattle.hextext.specs.Digits.{Digits, bytes_of}
use Rattle.ihex.proofs.pairs.Pairs.summed.Given as goal

-- what is read so far is pairs of digits, and its sum stands in `sum`
abbrev pub invariant-pairs : goal.invariant-pairs
invariant-pairs l =
    (l.pair-iterator.size ≡ 2)
    × (Digits l.pair-iterator.rest.now → Digits l.digits)
    × (Digits l.digits → Digits l.pair-iterator.rest.now)
    × (length l.pair-iterator.rest.now % 2 ≡ length l.digits % 2)
    × (l.sum < 256)
    × ((l.sum + sum (bytes_of l.pair-iterator.rest.now)) % 256 ≡ sum (bytes_of l.digits) % 256)
