-- Where the lines of a text stand.
use Rattle.std.proofs.Common.{◌≡◌, ℕ, zero, suc, ◌+◌, ◌-◌, ◌<◌, ◌≤◌, List, length, take, drop, sym, refl, ap, ◌∙◌, ⊎_elim, arith, length-drop}
use Rattle.std.proofs.lemmas.List.{take_rest, take_at, take-take, drop-take, drop-drop, drop_all, take_all, nil_from_length}
use Rattle.std.proofs.lemmas.Bool.{cases_lt}
use Rattle.hextext.specs.Lines.{before_feed, line_of, after_line, from_line, start}
use Rattle.hextext.proofs.Splits.{splits}

pub after_shorter : (xs : List ℕ) → 0 < length xs → length (after_line xs) < length xs
after_shorter xs some = let e = ap length (take_rest xs (before_feed xs + 1)) ∙ length-drop (before_feed xs + 1) xs in omega arith

pub line_front : (xs : List ℕ) → line_of xs ≡ take (length (line_of xs)) xs
line_front xs =
    let s = splits xs in
    ⊎_elim (λ lf. sym (ap (take (length (line_of xs))) lf.0 ∙ take_at (line_of xs) _ _ refl))
    (⊎_elim (λ crlf. sym (ap (take (length (line_of xs))) crlf ∙ take_at (line_of xs) _ _ refl))
    (λ end. sym (ap (take (length (line_of xs))) end.0 ∙ take_all (length (line_of xs)) (line_of xs) (omega arith))))
    s.ended

-- a part of the first line is that part of the text
pub line_part : (xs : List ℕ) (i n : ℕ) → i + n ≤ length (line_of xs) → take n (drop i (line_of xs)) ≡ take n (drop i xs)
line_part xs i n fits =
    let m : length (line_of xs) ≡ i + (length (line_of xs) - i) = omega arith in
    let le : n ≤ length (line_of xs) - i = omega arith in
    ap (λ l. take n (drop i l)) (line_front xs ∙ ap (λ k. take k xs) m)
    ∙ ap (take n) (drop-take i (length (line_of xs) - i) xs)
    ∙ take-take n (length (line_of xs) - i) (drop i xs) le

suffix : (text : List ℕ) (n : ℕ) → (k : ℕ) × (from_line text n ≡ drop k text)
suffix text zero = (0, refl)
suffix text (suc n) =
    let s = suffix text n in
    let cut = before_feed (from_line text n) + 1 in
    (s.0 + cut, take_rest (from_line text n) cut ∙ ap (drop cut) s.1 ∙ drop-drop cut s.0 text)

-- what is left after n lines is the text from where line n starts
pub from_start : (text : List ℕ) (n : ℕ) → drop (start text n) text ≡ from_line text n
from_start text n =
    let s = suffix text n in
    let size = ap length s.1 ∙ length-drop s.0 text in
    ⊎_elim
    (λ less. let at : start text n ≡ s.0 = omega arith in ap (λ k. drop k text) at ∙ sym s.1)
    (λ past. drop_all (start text n) text (omega arith) ∙ sym (nil_from_length (from_line text n) (omega arith)))
    (cases_lt s.0 (length text))

pub from_length : (text : List ℕ) (n : ℕ) → length (from_line text n) ≤ length text
from_length text n = let s = suffix text n in omega (arith, ap length s.1 ∙ length-drop s.0 text)
