-- A slow chip keeps the rules.
use Rattle.std.specs.Prelude.{◌≡◌, ℕ, zero, suc, ◌%◌, ◌<◌, ◌≤◌, Bool, true, false, cond, List, [], ◌∷◌, length, get_or, ◌==◌, ◌≢◌, bit_and, nat_lt, slice_index_or, slice_set, refl}
use Rattle.std.proofs.Common.{sym, ◌∙◌, ap, subst, arith, mod-lt, le_of_suc-le-suc, lit<, length-set, get_or-set_same, get_or-set_other}
use Rattle.std.proofs.lemmas.List.{get_or-map, length-map}
use Rattle.std.proofs.lemmas.List.Elements.{All-get_or}
use Rattle.std.proofs.lemmas.List.Sums.{AllPass-from_list_all}
use Rattle.std.specs.Prelude.{◌&&◌}
use Rattle.std.proofs.lemmas.Bool.{eqb-true, eqb-false, le-ltb, both_ways, cond-true, cond-false, cond_both}
use Rattle.chip.specs.Rules.{Within, bit, Cycle, write, read, sign, wait, supply, Meaning, Step, Sized, Nested, Ordered, Zeroed, Strike, none, program, erase, May, Answers, Shown, Signed, strike, after}
use Rattle.chip.specs.declared.state.Code.{Code}
use Rattle.chip.specs.declared.state.Code.TheVariants.{Maker, Device}
use Rattle.chip.specs.declared.state.Mode.{Mode}
use Rattle.chip.specs.declared.state.Mode.TheVariants.{Read, Sign, Idle, ProgramSetup, Programming, ProgramVerify, EraseSetup, Erasing, EraseVerify}
use Rattle.chip.proofs.Bits.{within_refl, within_full, and_within, and_keeps}
use Rattle.chip.proofs.Sizes.{sized_pos}
use Rattle.places.specs.Cells.{Cell, beyond, cells, programmed, erased, zeroed}
use Rattle.socket.specs.Sockets.{vacant, Floats}
use Rattle.places.specs.Lengths.{fits}
use Rattle.sim.specs.Trials.{State, meant, struck, next, shows, signs, code_of, Says}
use Rattle.places.specs.declared.place.Place.{Place}
use Rattle.places.proofs.Lengths.{fits_sized}
use Rattle.socket.specs.Vacancy.{vacant_lawful, vacant_ordered, vacant_sized}

-- CELLS

abbrev AllNested : List Cell → Type 0
AllNested cs = (a : ℕ) → a < length cs → Nested (get_or cs a beyond).E (get_or cs a beyond).R (get_or cs a beyond).P

pub places_nested : (ps : List Place) → AllNested (cells ps)
places_nested [] a l = absurd (omega arith)
places_nested (p ∷ ps) zero l = record { inner = p.inner; outer = p.outer; byte_e = p.bytes.0; byte_r = p.bytes.1; byte_p = p.bytes.2 }
places_nested (p ∷ ps) (suc a) l = places_nested ps a (le_of_suc-le-suc l)

-- STRIKES

abbrev Clears : ℕ → ℕ → ℕ → Type 0
Clears d x y = Within y x × ((k : ℕ) → bit k d ≡ 1 → bit k y ≡ bit k x)

cleared : (d x : ℕ) → Clears d x (bit_and x d)
cleared d x = (and_within x d, λ k e. and_keeps x d k e)

unmoved : (d x : ℕ) → Clears d x x
unmoved d x = (within_refl x, λ _ _. refl)

pub record Moved (f : Strike) (a : ℕ) (c e : Cell) : Type 0 where
  pub E : May f a c.E e.E
  pub R : May f a c.R e.R
  pub P : May f a c.P e.P

pub struck_length : (f : Strike) (cs : List Cell) → length (struck f cs) ≡ length cs
struck_length none cs = refl
struck_length (program p d) cs = simp length-set
struck_length erase cs = length-map cs erased

moved : (f : Strike) (cs : List Cell) (a : ℕ) → a < length cs → Nested (get_or cs a beyond).E (get_or cs a beyond).R (get_or cs a beyond).P → Moved f a (slice_index_or cs a beyond) (slice_index_or (struck f cs) a beyond)
moved none cs a h b = record { E = refl; R = refl; P = refl }
moved (program p d) cs a h b =
    let c = get_or cs a beyond in
    let at : a ≡ p → slice_index_or (slice_set cs p (programmed d (slice_index_or cs p beyond))) a beyond ≡ programmed d c =
    λ e. ap (λ (x : ℕ). get_or (slice_set cs x (programmed d (slice_index_or cs x beyond))) a beyond) (sym e) ∙ get_or-set_same cs a (programmed d c) beyond h in
    let off : (a ≢ p) → slice_index_or (slice_set cs p (programmed d (slice_index_or cs p beyond))) a beyond ≡ c = λ n. get_or-set_other cs p a (programmed d (slice_index_or cs p beyond)) beyond n in
    record {
      E = (λ e. subst (λ (x : Cell). Clears d c.E x.E) (sym (at e)) (cond_both _ c.E _ (Clears d c.E) (λ _. unmoved d c.E) (λ _. cleared d c.E)), λ n. ap (λ (x : Cell). x.E) (off n));
      R = (λ e. subst (λ (x : Cell). Clears d c.R x.R) (sym (at e)) (cond_both _ c.R _ (Clears d c.R) (λ _. unmoved d c.R) (λ _. cleared d c.R)), λ n. ap (λ (x : Cell). x.R) (off n));
      P = (λ e. subst (λ (x : Cell). Clears d c.P x.P) (sym (at e)) (cond_both _ _ c.P (Clears d c.P) (λ _. cleared d c.P) (λ _. unmoved d c.P)), λ n. ap (λ (x : Cell). x.P) (off n));
    }
moved erase cs a h b =
    let c = get_or cs a beyond in
    subst (λ (x : Cell). Moved erase a c x) (sym (get_or-map erased cs a beyond beyond h))
    (record {
      E = cond_both _ 0xFF c.E (Within c.E) (λ _. within_full c.E b.byte_e) (λ _. within_refl c.E);
      R = cond_both _ c.R 0xFF (Within c.R) (λ _. within_refl c.R) (λ _. within_full c.R b.byte_r);
      P = cond_both _ c.P 0xFF (Within c.P) (λ _. within_refl c.P) (λ _. within_full c.P b.byte_p);
    })

-- WHOLLY AT ZERO

abbrev SomeLeft : List Cell → Type 0
SomeLeft cs = (a : ℕ) × (a < length cs) × (0 < (get_or cs a beyond).P)

abbrev AllClear : List Cell → Type 0
AllClear cs = (a : ℕ) → a < length cs → (get_or cs a beyond).P ≡ 0

left_by : (c : Cell) (cs : List Cell) (b : Bool) → (c.P == 0) ≡ b → (b && zeroed cs) ≡ false → (zeroed cs ≡ false → SomeLeft cs) → SomeLeft (c ∷ cs)
left_by c cs true e h r = let l = r h in let i = l.1 in (suc l.0, omega arith, l.2)
left_by c cs false e h r = let n = eqb-false c.P 0 e in (0, omega arith, omega arith)

some_left : (cs : List Cell) → zeroed cs ≡ false → SomeLeft cs
some_left [] h = absurd (both_ways true h refl)
some_left (c ∷ cs) h = left_by c cs (c.P == 0) refl h (λ k. some_left cs k)

all_clear : (cs : List Cell) → zeroed cs ≡ true → AllClear cs
all_clear cs h a l = eqb-true _ 0 (All-get_or (λ (c : Cell). (c.P == 0) ≡ true) cs a beyond l (AllPass-from_list_all (λ (c : Cell). c.P == 0) cs h))

-- A CHIP AT WORK

abbrev pub working : State → Meaning
working s = record {
  size = length s.cells;
  maker = s.maker;
  device = s.device;
  E = λ a. (get_or s.cells a beyond).E;
  R = λ a. (get_or s.cells a beyond).R;
  P = λ a. (get_or s.cells a beyond).P;
  register = s.register;
}

tells : (s : State) (b : Bool) → zeroed s.cells ≡ b → Zeroed b (working s)
tells s true e = all_clear s.cells e
tells s false e = some_left s.cells e

late : (t v x : ℕ) → v ≡ cond (nat_lt t 6) 0xFF x → 6 ≤ t → v ≡ x
late t v x e h = e ∙ cond-false _ 0xFF x (le-ltb t 6 h)

shown : (m : Mode) (s : State) (a v : ℕ) → v ≡ shows m s.cells a → Shown m (working s) a v
shown Read s a v e = e
shown Sign s a v e = tt
shown Idle s a v e = tt
shown ProgramSetup s a v e = tt
shown (Programming p d t) s a v e = tt
shown (ProgramVerify p t) s a v e = late t v _ e
shown EraseSetup s a v e = tt
shown (Erasing t) s a v e = tt
shown (EraseVerify p t) s a v e = late t v _ e

coded : (c : Code) (s : State) (v : ℕ) → v ≡ code_of c s → Signed Sign (working s) c v
coded Maker s v e = e
coded Device s v e = e

signed : (m : Mode) (s : State) (c : Code) (v : ℕ) → v ≡ signs m (code_of c s) → Signed m (working s) c v
signed Read s c v e = tt
signed Sign s c v e = coded c s v e
signed Idle s c v e = tt
signed ProgramSetup s c v e = tt
signed (Programming p d t) s c v e = tt
signed (ProgramVerify p t) s c v e = tt
signed EraseSetup s c v e = tt
signed (Erasing t) s c v e = tt
signed (EraseVerify p t) s c v e = tt

shows_byte : (m : Mode) (cs : List Cell) (a : ℕ) → 0 < length cs → AllNested cs → shows m cs a < 256
shows_byte Read cs a h o = (o (a % length cs) (mod-lt a h)).byte_r
shows_byte Sign cs a h o = lit< tt
shows_byte Idle cs a h o = lit< tt
shows_byte ProgramSetup cs a h o = lit< tt
shows_byte (Programming p d t) cs a h o = lit< tt
shows_byte (ProgramVerify p t) cs a h o = cond_both (nat_lt t 6) 0xFF _ (λ (v : ℕ). v < 256) (λ _. lit< tt) (λ _. (o (p % length cs) (mod-lt p h)).byte_p)
shows_byte EraseSetup cs a h o = lit< tt
shows_byte (Erasing t) cs a h o = lit< tt
shows_byte (EraseVerify p t) cs a h o = cond_both (nat_lt t 6) 0xFF _ (λ (v : ℕ). v < 256) (λ _. lit< tt) (λ _. (o (p % length cs) (mod-lt p h)).byte_e)

answers : (s : State) (c : Cycle) → fits (length s.cells) ≡ true → AllNested s.cells → Says s c → Answers (working s) c
answers s (write a b) l o h = tt
answers s (read a v) l o h =
    let e : v ≡ shows s.register.mode s.cells a = h ∙ cond-true _ _ 0xFF l in
    let n = sized_pos _ (fits_sized _ l) in
    (subst (λ (x : ℕ). x < 256) (sym e) (shows_byte s.register.mode s.cells a n o), shown s.register.mode s a v e)
answers s (sign c v) l o h = (h.1, signed s.register.mode s c v (h.0 ∙ cond-true _ _ 0xFF l))
answers s (wait w) l o h = tt
answers s (supply v) l o h = tt

abbrev driven : Cycle → State → State
driven c s = record {
  cells = struck (strike (length s.cells) c s.register.voltage s.register.mode) s.cells;
  maker = s.maker;
  device = s.device;
  register = after (length s.cells) (zeroed s.cells) c s.register;
}

work : (s : State) (c : Cycle) → fits (length s.cells) ≡ true → AllNested s.cells → AllNested (driven c s).cells → Says s c → Step (working s) c (working (driven c s))
work s c l o q h =
    let f = strike (length s.cells) c s.register.voltage s.register.mode in
    record {
      size = struck_length f s.cells;
      maker = refl;
      device = refl;
      zeroed = zeroed s.cells;
      told = tells s (zeroed s.cells) refl;
      register = refl;
      cells = λ a i.
          let m = moved f s.cells a i (o a i) in
          record { E = m.E; R = m.R; P = m.P; nested = λ _. q a (subst (λ (x : ℕ). a < x) (sym (struck_length f s.cells)) i) };
      answers = answers s c l o h;
    }

-- A TABLE OF NO LAWFUL LENGTH

floats : (s : State) (c : Cycle) → fits (length s.cells) ≡ false → Says s c → Floats c
floats s (write a b) l h = tt
floats s (read a v) l h = h ∙ cond-false _ _ 0xFF l
floats s (sign c v) l h = h.0 ∙ cond-false _ _ 0xFF l
floats s (wait w) l h = tt
floats s (supply v) l h = tt

abbrev vacated : Cycle → State → State
vacated c s = record { cells = s.cells; maker = s.maker; device = s.device; register = after 32768 false c s.register }

-- BOTH

-- what a cycle does, by the test of the length
abbrev by_test : Bool → Cycle → State → State
by_test b c s = record {
  cells = cond b (struck (strike (cond b (length s.cells) 32768) c s.register.voltage s.register.mode) s.cells) s.cells;
  maker = s.maker;
  device = s.device;
  register = after (cond b (length s.cells) 32768) (cond b (zeroed s.cells) false) c s.register;
}

meant_working : (s : State) → fits (length s.cells) ≡ true → meant s ≡ working s
meant_working s l = cond-true _ _ _ l

meant_vacant : (s : State) → fits (length s.cells) ≡ false → meant s ≡ vacant s.register
meant_vacant s l = cond-false _ _ _ l

-- what holds of a chip at work and of an empty socket holds of either
by_length : (s : State) (P : Meaning → Type 0) → (fits (length s.cells) ≡ true → P (working s)) → (fits (length s.cells) ≡ false → P (vacant s.register)) → P (meant s)
by_length s P w v = cond_both (fits (length s.cells)) _ _ P w v

pub state_lawful : (s : State) (c : Cycle) (t : State) → AllNested s.cells → AllNested t.cells → t ≡ next c s → Says s c → Step (meant s) c (meant t)
state_lawful s c t o q e h =
    by_length s (λ (x : Meaning). Step x c (meant t))
    (λ l.
    let f = strike (length s.cells) c s.register.voltage s.register.mode in
    let u : t ≡ driven c s = e ∙ ap (λ (b : Bool). by_test b c s) l in
    let k : fits (length t.cells) ≡ true = ap (λ (x : State). fits (length x.cells)) u ∙ ap fits (struck_length f s.cells) ∙ l in
    let w = work s c l o (subst (λ (x : State). AllNested x.cells) u q) h in
    subst (λ (x : Meaning). Step (working s) c x) (sym (meant_working t k ∙ ap working u)) w)
    (λ l.
    let u : t ≡ vacated c s = e ∙ ap (λ (b : Bool). by_test b c s) l in
    let k : fits (length t.cells) ≡ false = ap (λ (x : State). fits (length x.cells)) u ∙ l in
    subst (λ (x : Meaning). Step (vacant s.register) c x) (sym (meant_vacant t k ∙ ap (λ (x : State). vacant x.register) u))
    (vacant_lawful s.register c (after 32768 false c s.register) refl (floats s c l h)))

pub state_ordered : (s : State) → AllNested s.cells → Ordered (meant s)
state_ordered s o = by_length s Ordered (λ _. record { nested = o }) (λ _. vacant_ordered s.register)

pub state_sized : (s : State) → Sized (meant s).size
state_sized s = by_length s (λ (x : Meaning). Sized x.size) (λ l. fits_sized (length s.cells) l) (λ _. vacant_sized)
