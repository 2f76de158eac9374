-- What a line's header and digits say of its rules.
use Rattle.std.proofs.Common.{◌≡◌, ℕ, ◌+◌, ◌*◌, ◌%◌, ◌<◌, List, ◌∷◌, length, get_or, take, drop, Err, sum, sym, refl, ap, ◌∙◌, subst, ⊎_elim, add-zero, arith, length-drop}
use Rattle.std.specs.List.{prefix_len}
use Rattle.std.proofs.lemmas.List.{drop-drop}
use Rattle.hextext.specs.Digits.{is_digit, Digits, bytes_of}
use Rattle.ihex.specs.declared.fault.Reason.{Reason}
use Rattle.ihex.specs.declared.fault.HexFault.{HexFault}
use Rattle.ihex.specs.declared.record.Header.{Header}
use Rattle.ihex.specs.Rules.{bytes, count, place, kind, Colon, Spelt, Sized, Formed, Broken, offset}
use Rattle.ihex.specs.Steps.{Headed, Unpaired, LineRead}
use Rattle.ihex.specs.Faults.{fault_at}

-- a refusal at the line's start
pub broken_read : (line : List ℕ) (r : Reason) (n p : ℕ) (e : HexFault) → e ≡ fault_at r n p → Broken r line → offset r line ≡ 0 → LineRead line n p (Err e)
broken_read line r n p e is b z = subst (λ f. LineRead line n p (Err f)) (sym is) (b, refl, sym (ap (λ k. p + k) z ∙ add-zero p))

-- ds is what follows the first byte of the line
module _ (line : List ℕ) {ds : List ℕ} (is : ds ≡ drop 1 line) where
  pub spelt_is : Digits ds → Spelt line
  spelt_is d = subst Digits is d

  pub unspelt : (Digits ds → ⊥) → Spelt line → ⊥
  unspelt none s = none (subst Digits (sym is) s)

  pub short : length ds < 10 → Sized line → ⊥
  short less s = omega (arith, ap length is, s.0)

  pub odd : length ds % 2 ≡ 1 → Sized line → ⊥
  odd e s = omega (arith, ap length is, s.1)

  pub summed_is : (s : ℕ) → s ≡ sum (bytes_of ds) % 256 → s ≡ sum (bytes line) % 256
  summed_is s e = e ∙ ap (λ l. sum (bytes_of l) % 256) is

  module _ {h : Header} {body : List ℕ} (head : Headed ds h body) where
    bytes_is : bytes line ≡ h.count ∷ (head.bytes.0 ∷ (head.bytes.1 ∷ (h.kind ∷ bytes_of body)))
    bytes_is = ap bytes_of (sym is) ∙ head.bytes.2

    pub count_is : count line ≡ h.count
    count_is = ap (λ l. get_or l 0 0) bytes_is

    pub kind_is : kind line ≡ h.kind
    kind_is = ap (λ l. get_or l 3 0) bytes_is

    pub place_is : h.place ≡ place line
    place_is = head.bytes.3 ∙ sym (ap (λ l. get_or l 1 0 * 256 + get_or l 2 0) bytes_is)

    size_is : length body + 8 ≡ length (drop 1 line)
    size_is = let e = ap length head.rest_is ∙ length-drop 8 ds in let n = ap length is in omega (arith, head.long)

    pub sized_is : length body ≡ 2 * h.count + 2 → Sized line
    sized_is e = (omega (arith, size_is), omega (arith, size_is, count_is))

    pub digits_are : take (2 * h.count) body ≡ take (2 * count line) (drop 9 line)
    digits_are =
        let n : 2 * h.count ≡ 2 * count line = omega (arith, count_is) in
        let b : body ≡ drop 9 line = head.rest_is ∙ ap (drop 8) is ∙ drop-drop 8 1 line in
        ap (λ k. take k body) n ∙ ap (take (2 * count line)) b

    pub formed : Colon line → Digits ds → length body ≡ 2 * h.count + 2 → (s : ℕ) → s ≡ sum (bytes_of ds) % 256 → s ≡ 0 → Formed line
    formed colon d e s total zero = record { colon = colon; spelt = spelt_is d; sized = sized_is e; summed = sym (summed_is s total) ∙ zero }

  -- what `unpaired` answers is what the line breaks
  pub unpaired_read : (n p : ℕ) (e : HexFault) → Colon line → Unpaired ds n p e → LineRead line n p (Err e)
  unpaired_read n p e colon =
      ⊎_elim
      (λ stray. subst (λ f. LineRead line n p (Err f)) (sym stray.1) ((colon, unspelt stray.0), refl, ap (λ l. p + (1 + prefix_len is_digit l)) is))
      (λ uneven. subst (λ f. LineRead line n p (Err f)) (sym uneven.2) ((colon, spelt_is uneven.0, odd uneven.1), refl, sym (add-zero p)))
