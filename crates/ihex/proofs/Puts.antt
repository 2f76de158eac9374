-- A part of the image, written over.
use Rattle.std.proofs.Common.{◌≡◌, ℕ, ◌+◌, ◌/◌, ◌<◌, ◌≤◌, List, length, get_or, sym, ap, ◌∙◌, ⊎_elim, arith, rules}
use borrow.Rule.Slice.PartMut.{put_mid}
use Rattle.std.proofs.lemmas.List.{places}
use Rattle.hextext.specs.Digits.{bytes_of}
use Rattle.hextext.proofs.Pairs.{length_bytes}
use Rattle.ihex.specs.Steps.{Put}

pub Put-put_mid : (image : List ℕ) (from : ℕ) (digits part : List ℕ) (k : ℕ) → k ≡ length digits / 2 → from + k ≤ length image → part ≡ bytes_of digits → Put image from digits (put_mid from k image part)
Put-put_mid image from digits part k size fits is =
    let n : length part ≡ k = ap length is ∙ length_bytes digits ∙ sym size in
    record {
      here = λ j h. (let in' : j < length part = omega arith in inner j in') ∙ ap (λ l. get_or l j 0) is;
      elsewhere = λ a. ⊎_elim (λ low. below a low n) (λ high. above a (omega arith) n);
    }
  where
    inner : (j : ℕ) → j < length part → get_or (put_mid from k image part) (from + j) 0 ≡ get_or part j 0
    inner j h = search (rules, places)

    below : (a : ℕ) → a < from → length part ≡ k → get_or (put_mid from k image part) a 0 ≡ get_or image a 0
    below a h n = search (rules, places)

    above : (a : ℕ) → from + k ≤ a → length part ≡ k → get_or (put_mid from k image part) a 0 ≡ get_or image a 0
    above a h n = search (rules, places)
