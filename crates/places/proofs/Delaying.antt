-- A new place gives way as its delays say.
use Rattle.std.proofs.Common.{◌≡◌, ℕ, zero, suc, ◌<◌, ◌≤◌, ◌⊎◌, refl, ap, ◌∙◌, inl, inr, ⊎_elim, mod-eq_of_lt, arith}
use lib.Bits.{bit_and, and_comm, and_mask, and_self}
use Rattle.std.proofs.lemmas.Bool.{lt-ltb, le-ltb, cond-true, cond-false, cond_both}
use Rattle.places.specs.Cells.{Cell, made_cell, more, programmed, erased}
use Rattle.places.specs.Delays.{times, at_zero, Programs, Erases, GivesWay}

more_is : (n k : ℕ) → n ≡ k → suc k ≤ 65535 → more n ≡ suc k
more_is n k e l = omega arith

-- PROGRAM STRIKES

-- a byte that is still FFh, or already d
abbrev Way : ℕ → ℕ → Type 0
Way d x = (x ≡ 0xFF) ⊎ (x ≡ d)

and_way : (d x : ℕ) → d < 256 → Way d x → bit_and x d ≡ d
and_way d x h w = ⊎_elim (λ e. ap (λ (y : ℕ). bit_and y d) e ∙ and_comm 0xFF d ∙ and_mask d 8 ∙ mod-eq_of_lt h) (λ e. ap (λ (y : ℕ). bit_and y d) e ∙ and_self d) w

record ProgrammingPlace (delay k d : ℕ) (c : Cell) : Type 0 where
  pub count : c.program_count ≡ k
  pub same : c.program_delay ≡ delay
  pub way_E : Way d c.E
  pub way_R : Way d c.R
  pub way_P : Way d c.P
  pub told : Programs delay k d c

program_first : (p e d : ℕ) → ProgrammingPlace p 0 d (made_cell p e)
program_first p e d =
    record {
      count = refl;
      same = refl;
      way_E = inl refl;
      way_R = inl refl;
      way_P = inl refl;
      told = record { not_yet = λ _. (refl, refl); reads = λ h _. absurd (omega arith); not_firmly = λ _. refl; firmly = λ h. absurd (omega arith) };
    }

program_more : (p k d : ℕ) (c : Cell) → suc k ≤ 65535 → d < 256 → ProgrammingPlace p k d c → ProgrammingPlace p (suc k) d (programmed d c)
program_more p k d c l h s =
    let n = more_is c.program_count k s.count l in
    let e = s.same in
    record {
      count = n;
      same = e;
      way_E = cond_both _ c.E (bit_and c.E d) (Way d) (λ _. s.way_E) (λ _. inr (and_way d c.E h s.way_E));
      way_R = cond_both _ c.R (bit_and c.R d) (Way d) (λ _. s.way_R) (λ _. inr (and_way d c.R h s.way_R));
      way_P = cond_both _ (bit_and c.P d) c.P (Way d) (λ _. inr (and_way d c.P h s.way_P)) (λ _. s.way_P);
      told = record {
        not_yet = λ q.
            let b = lt-ltb (more c.program_count) c.program_delay (omega arith) in
            let t = s.told.not_yet (omega arith) in
            (cond-true _ _ _ b ∙ t.0, cond-true _ _ _ b ∙ t.1);
        reads = λ _ q.
            let b = le-ltb (more c.program_count) c.program_delay (omega arith) in
            (cond-false _ _ _ b ∙ and_way d c.E h s.way_E, cond-false _ _ _ b ∙ and_way d c.R h s.way_R);
        not_firmly = λ q. cond-false _ _ _ (le-ltb c.program_delay (more c.program_count) (omega arith)) ∙ s.told.not_firmly (omega arith);
        firmly = λ q. cond-true _ _ _ (lt-ltb c.program_delay (more c.program_count) (omega arith)) ∙ and_way d c.P h s.way_P;
      };
    }

programming : (p e k d : ℕ) → k ≤ 65535 → d < 256 → ProgrammingPlace p k d (times k (programmed d) (made_cell p e))
programming p e zero d l h = program_first p e d
programming p e (suc k) d l h = program_more p k d _ l h (programming p e k d (omega arith) h)

-- ERASE STRIKES

record ErasingPlace (delay k : ℕ) (c : Cell) : Type 0 where
  pub count : c.erase_count ≡ k
  pub same : c.erase_delay ≡ delay
  pub told : Erases delay k c

erase_first : (p e : ℕ) → ErasingPlace e 0 (at_zero (made_cell p e))
erase_first p e =
    record {
      count = refl;
      same = refl;
      told = record { not_yet = λ _. (refl, refl); reads = λ h _. absurd (omega arith); not_firmly = λ _. refl; firmly = λ h. absurd (omega arith) };
    }

erase_more : (e k : ℕ) (c : Cell) → suc k ≤ 65535 → ErasingPlace e k c → ErasingPlace e (suc k) (erased c)
erase_more e k c l s =
    let n = more_is c.erase_count k s.count l in
    let f = s.same in
    record {
      count = n;
      same = f;
      told = record {
        not_yet = λ q.
            let b = lt-ltb (more c.erase_count) c.erase_delay (omega arith) in
            let t = s.told.not_yet (omega arith) in
            (cond-true _ _ _ b ∙ t.0, cond-true _ _ _ b ∙ t.1);
        reads = λ _ q.
            let b = le-ltb (more c.erase_count) c.erase_delay (omega arith) in
            (cond-false _ _ _ b, cond-false _ _ _ b);
        not_firmly = λ q. cond-false _ _ _ (le-ltb c.erase_delay (more c.erase_count) (omega arith)) ∙ s.told.not_firmly (omega arith);
        firmly = λ q. cond-true _ _ _ (lt-ltb c.erase_delay (more c.erase_count) (omega arith));
      };
    }

erasing : (p e k : ℕ) → k ≤ 65535 → ErasingPlace e k (times k erased (at_zero (made_cell p e)))
erasing p e zero l = erase_first p e
erasing p e (suc k) l = erase_more e k _ l (erasing p e k (omega arith))

pub gives_way : (p e : ℕ) → GivesWay (made_cell p e)
gives_way p e = record { programs = λ k d l h. (programming p e k d l h).told; erases = λ k l. (erasing p e k l).told }
