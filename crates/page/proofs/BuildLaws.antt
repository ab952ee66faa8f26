-- Lines that the machine has taken are the first lines of a desk's page: each line leaves a desk behind, and a desk whose seats wait can go on to their ends. Assumes nothing.
use Rattle.std.proofs.Common.{◌≡◌, ℕ, zero, suc, ◌+◌, ◌-◌, ◌*◌, ◌/◌, ◌%◌, ◌^◌, ◌<◌, ◌≤◌, Bool, true, false, cond, not, ◌&&◌, ◌||◌, eqb, ltb, leb, List, [], ◌∷◌, ◌++◌, length, replicate, sym, refl, ap, ◌∙◌, subst, ap₂, append_assoc, append-nil, add-one, arith, take_at, pow_pos, shr-shr, ltb-true, lt-ltb, eq-eqb, eqb-true, le-leb, leb-true}
use mathlib.Core.Bool.{false≢true}
use native.Mathlib.Nat.{zero-div}
use lib.ListN.{length-replicate}
use borrow.Author.Tests.{eqb-false}
use Rattle.digits.specs.Told.{Told, gives, refuses}
use Rattle.digits.proofs.Tests.{by-test, by_less, and_true, and_l, and_r}
use Rattle.frames.specs.Kind.{CR}
use Rattle.frames.specs.declared.reply.ReplyLabel.{ReplyLabel}
use Rattle.lines.specs.Lines.{every}
use Rattle.lines.specs.Tokens.{write_all}
use Rattle.desk.specs.declared.key.Key.{Key}
use Rattle.desk.specs.Limits.{seat_count, cell_size}
use Rattle.desk.specs.Below.{count_below}
use Rattle.desk.specs.Key.{key_in, seat_key, is_key}
use Rattle.desk.specs.Hearing.{heard, has_key, status_in, ends, in_place}
use Rattle.desk.specs.Step.{progress_of, step, goes}
use Rattle.desk.specs.Seats.{seat_at, used_bit, seat_with}
use Rattle.desk.specs.Memory.{Memory, capacity, capacity_of}
use Rattle.desk.specs.Calls.{opened, taken, empty_row, emptied}
use Rattle.desk.proofs.Below.{never, false_or, eq-case, count_ext, count_turned, count_none, count_some}
use Rattle.desk.proofs.Bits.{none_used, set_own, set_other, set_below}
use Rattle.desk.proofs.KeyLaws.{same_key_case}
use Rattle.desk.proofs.ReplayLaws.{goes_step, Facts, facts_desk, keyed_at_law}
use Rattle.desk.proofs.StepLaws.{OpensAt, Took, fresh_below}
use Rattle.desk.proofs.DeskLaws.{taken_own, taken_other, taken_key, taken_capacity, old_mark, new_mark, old_cell, new_cell, taken_desk, opened_own, opened_other, opened_bit, other_bit, opened_desk, emptied_desk}
use Rattle.desk.proofs.ViewLaws.{one_seat}
use Rattle.page.specs.Version.{Version, Sound, within, showable}
use Rattle.page.specs.Sum.{sum_of, sum_modulus}
use Rattle.page.specs.Page.{middle, front}
use Rattle.page.specs.inside.Tokens.{Token, first, seat, cell, last, middle_size, write, fits, code, seat_tokens, cell_tokens, front_tokens, ended_at, tokens}
use Rattle.page.specs.inside.Machine.{Body, framed, seat_taken, with_seat, heard_taken, with_cell}
use Rattle.page.specs.inside.Ending.{waits_at, CanEnd}
use Rattle.page.proofs.EndingLaws.{ended_most}
use Rattle.page.proofs.SettleLaws.{facts_can_end}
use Rattle.page.proofs.TokenLaws.{sum_more, front_tokens_law, seats_same, cells_same, cells_on}

-- ---- bits

-- no seat from i on is in use
pub above_clear : (b i j : ℕ) → b / 2 ^ i ≡ 0 → i ≤ j → used_bit b j ≡ false
above_clear b i j h l =
    let e : b / 2 ^ j ≡ 0 =
    ap (λ (n : ℕ). b / 2 ^ n) (let q : j ≡ i + (j - i) = omega arith in q) ∙ sym (shr-shr b i (j - i)) ∙ ap (λ (x : ℕ). x / 2 ^ (j - i)) h ∙ zero-div (2 ^ (j - i)) in
    ap (λ (x : ℕ). eqb (x % 2) 1) e

-- what is said of seat i, as a number
abbrev pub said_in : ℕ → ℕ → ℕ
said_in said i = cond (used_bit said i) 1 0

-- setting what is said of a seat
pub record SaidSet (said i e : ℕ) : Type 0 where
  pub own : said_in (said + e * 2 ^ i) i ≡ e
  pub bit : used_bit (said + e * 2 ^ i) i ≡ eqb e 1
  pub others : (j : ℕ) → (j ≡ i → ⊥) → used_bit (said + e * 2 ^ i) j ≡ used_bit said j

said_set : (said i e : ℕ) → used_bit said i ≡ false → e ≤ 1 → SaidSet said i e
said_set said i e h l =
    by_less e 1
    (λ z. let q : said + e * 2 ^ i ≡ said = let y : e ≡ 0 = omega arith in rw y (omega arith) in
    let y : e ≡ 0 = omega arith in
    record { own = rw (q, h) (sym y); bit = rw (q, h, y); others = λ j n. rw q })
    (λ z. let y : e ≡ 1 = omega arith in
    let q : said + e * 2 ^ i ≡ said + 2 ^ i = rw y (omega arith) in
    let o = set_own said i h in
    record { own = rw (q, o) (sym y); bit = rw (q, o, y); others = λ j n. rw q (set_other said i j h n) })

module _ (v : Version) (sound : Sound v) where
  -- ---- what was read so far

  -- these tokens are the first lines of desk d, with what is said of the seats in place of what has come
  pub record Shows (ks : List Token) (d : Memory) (said : ℕ) : Type 0 where
    pub facts : Facts d
    pub size : capacity d ≡ v.cells
    pub few : d.bits < 2 ^ v.seats
    pub tokens : ks ≡ front_tokens v d (said_in said)
    -- only used seats are said to end, and those that have ended are
    pub marked : (i : ℕ) → used_bit said i ≡ true → used_bit d.bits i ≡ true
    pub unsaid : (i : ℕ) → i < seat_count → used_bit d.bits i ≡ true → ((seat_at d.row i).ended ≡ 0 → ⊥) → used_bit said i ≡ true

  abbrev pub waiting_at : Memory → ℕ → ℕ
  waiting_at d said = count_below seat_count (waits_at d (used_bit said))

  abbrev pub sofar : List Token → Memory → ℕ → Body
  sofar ks d said = record { row = d.row; bits = d.bits; count = d.count; said = said; waiting = waiting_at d said; sum = sum_of (write_all (code v) ks) }

  pub data Built (ks : List Token) : Body → Type 0 where
    built : (d : Memory) (said : ℕ) → Shows ks d said → Built ks (sofar ks d said)

  -- ---- the first line

  abbrev pub lent : Memory
  lent = record { row = []; bits = 0; count = 0; cells = replicate (v.cells * cell_size) 0; marks = replicate v.cells 0; tally = [] }

  no_seats : (f : ℕ → ℕ) (n : ℕ) → seat_tokens v (emptied lent) f n ≡ []
  unfolding seat_tokens
  no_seats f zero = refl
  no_seats f (suc n) = rw (no_seats f n, none_used n)

  lent_size : capacity (emptied lent) ≡ v.cells
  unfolding capacity_of
  lent_size = let a = sound.cells in let b = length-replicate {A = ℕ} (v.cells * cell_size) 0 in let c = length-replicate {A = ℕ} v.cells 0 in omega arith

  pub first_shows : Shows (first ∷ []) (emptied lent) 0
  unfolding front_tokens cell_tokens
  first_shows = record {
    facts = emptied_desk lent;
    size = lent_size;
    few = pow_pos v.seats;
    tokens = rw (no_seats (said_in 0) v.seats);
    marked = λ i u. never (used_bit 0 i) u (none_used i);
    unsaid = λ i l u n. never (used_bit 0 i) u (none_used i);
  }

  pub first_sofar : sofar (first ∷ []) (emptied lent) 0 ≡ record { row = empty_row; bits = 0; count = 0; said = 0; waiting = 0; sum = sum_of (write v first) }
  first_sofar =
      let none : waiting_at (emptied lent) 0 ≡ 0 = count_none seat_count (waits_at (emptied lent) (used_bit 0)) (λ i l. rw (none_used i)) in
      let sums : sum_of (write_all (code v) (first ∷ [])) ≡ sum_of (write v first) = ap sum_of (append-nil (write v first)) in
      λ j. record { row = empty_row; bits = 0; count = 0; said = 0; waiting = none j; sum = sums j }

  -- ---- a line of a seat

  module _ (ks : List Token) (d : Memory) (said : ℕ) (b : Shows ks d said) (i : ℕ) (k : Key) (e : ℕ) (f : fits v (seat i k e) ≡ true) (t : seat_taken (sofar ks d said) i k ≡ true) where
    record Seated : Type 0 where
      below : i < v.seats
      legal : is_key k ≡ true
      bit : e ≤ 1
      none : d.count ≡ 0
      above : d.bits / 2 ^ i ≡ 0
      fresh : seat_count ≤ seat_with d.row d.bits k

    seated : Seated
    unfolding fits seat_taken
    seated =
        let x = ltb i v.seats in
        let g = and_l (x && is_key k) (leb e 1) f in
        let c = eqb d.count 0 in
        let a = eqb (d.bits / 2 ^ i) 0 in
        let n = leb seat_count (seat_with d.row d.bits k) in
        let ca = and_l (c && a) n t in
        record {
          below = ltb-true i v.seats (and_l x (is_key k) g);
          legal = and_r x (is_key k) g;
          bit = leb-true e 1 (and_r (x && is_key k) (leb e 1) f);
          none = eqb-true _ _ (and_l c a ca);
          above = eqb-true _ _ (and_r c a ca);
          fresh = leb-true _ _ (and_r (c && a) n t);
        }

    clear : used_bit d.bits i ≡ false
    clear = above_clear d.bits i i seated.above (omega arith)

    inside : i < seat_count
    inside = let a = sound.seats in let c = seated.below in omega arith

    pub opens : OpensAt d (record { seat = i; key = k })
    opens = record { facts = b.facts; legal = seated.legal; fresh = fresh_below d.row d.bits k seated.fresh; below = inside; clear = clear }

    abbrev d' : Memory
    d' = opened d (record { seat = i; key = k })

    abbrev said' : ℕ
    said' = said + e * 2 ^ i

    pub saying : SaidSet said i e
    saying = said_set said i e (false_or (used_bit said i) (λ u. false≢true (sym clear ∙ b.marked i u))) seated.bit

    other_said : (j : ℕ) → (j ≡ i → ⊥) → said_in said' j ≡ said_in said j
    other_said j n = ap (λ (x : Bool). cond x 1 0) (saying.others j n)

    -- the new seat comes after all others
    seats_before : (n : ℕ) → n ≤ i → seat_tokens v d' (said_in said') n ≡ seat_tokens v d (said_in said) n
    seats_before n l =
        seats_same v d d' (said_in said) (said_in said') n
        (λ j h. other_bit d _ opens j (λ q. omega arith))
        (λ j h u. (ap seat_key (opened_other d _ opens j (λ q. omega arith)), other_said j (λ q. omega arith)))

    seats_past : (n : ℕ) → seat_tokens v d' (said_in said') (suc (i + n)) ≡ seat_tokens v d (said_in said) (suc (i + n)) ++ (seat i k e ∷ [])
    unfolding seat_tokens
    seats_past zero =
        let same : i + 0 ≡ i = omega arith in
        rw (same, opened_bit d _ opens, opened_own d _ opens, saying.own, clear, append-nil) (ap (λ (l : List Token). l ++ (seat i k e ∷ [])) (seats_before i (omega arith)))
    seats_past (suc n) =
        let next_one : i + suc n ≡ suc (i + n) = omega arith in
        let off : used_bit d.bits (suc (i + n)) ≡ false = above_clear d.bits i (suc (i + n)) seated.above (omega arith) in
        rw (next_one, other_bit d _ opens (suc (i + n)) (λ q. omega arith), off, append-nil, append-nil) (seats_past n)

    -- with nothing held yet, that is one token more
    tokens_more : ks ++ (seat i k e ∷ []) ≡ front_tokens v d' (said_in said')
    unfolding front_tokens cell_tokens
    tokens_more =
        let all : v.seats ≡ suc (i + (v.seats - suc i)) = let c = seated.below in omega arith in
        let past = subst (λ (n : ℕ). seat_tokens v d' (said_in said') n ≡ seat_tokens v d (said_in said) n ++ (seat i k e ∷ [])) (sym all) (seats_past (v.seats - suc i)) in
        let was : ks ≡ first ∷ (seat_tokens v d (said_in said) v.seats ++ cell_tokens v d d.count) = b.tokens in
        let now : ks ≡ first ∷ seat_tokens v d (said_in said) v.seats = was ∙ rw (seated.none, append-nil) in
        rw (now, past, seated.none, append-nil)

    waits_other : (j : ℕ) → (j ≡ i → ⊥) → waits_at d' (used_bit said') j ≡ waits_at d (used_bit said) j
    waits_other j n = rw (other_bit d _ opens j n, saying.others j n, opened_other d _ opens j n)

    waits_own : waits_at d' (used_bit said') i ≡ eqb e 1
    waits_own = rw (opened_bit d _ opens, saying.bit, opened_own d _ opens) (simple (eqb e 1))
      where
        simple : (x : Bool) → x && true ≡ x
        simple true = refl
        simple false = refl

    waiting_more : waiting_at d said + e ≡ waiting_at d' said'
    waiting_more =
        by_less e 1
        (λ z. let y : e ≡ 0 = omega arith in
        let same : waiting_at d said ≡ waiting_at d' said' =
        count_ext seat_count (waits_at d (used_bit said)) (waits_at d' (used_bit said')) (λ j l. eq-case j i (λ q. rw (q, clear) (sym (waits_own ∙ rw y))) (λ n. sym (waits_other j n))) in
        omega arith)
        (λ z. let c = seated.bit in
        let y : e ≡ 1 = omega arith in
        let grown : waiting_at d' said' ≡ waiting_at d said + 1 =
        count_turned seat_count i (waits_at d (used_bit said)) (waits_at d' (used_bit said')) inside (rw clear) (waits_own ∙ rw y) waits_other in
        omega arith)

    pub seat_shows : Shows (ks ++ (seat i k e ∷ [])) d' said'
    seat_shows = record {
      facts = opened_desk d _ opens;
      size = b.size;
      few = set_below v.seats d.bits i b.few seated.below clear;
      tokens = tokens_more;
      marked = λ j u. eq-case j i (λ q. rw q (opened_bit d _ opens)) (λ n. other_bit d _ opens j n ∙ b.marked j (sym (saying.others j n) ∙ u));
      unsaid = λ j l u n. eq-case j i
          (λ q. absurd (n (rw (q, opened_own d _ opens))))
          (λ q. saying.others j q ∙ b.unsaid j l (sym (other_bit d _ opens j q) ∙ u) (λ z. n (rw (opened_other d _ opens j q) z)));
    }

    pub seat_sofar : sofar (ks ++ (seat i k e ∷ [])) d' said' ≡ with_seat (sofar ks d said) i k e (sum_of (write v (seat i k e)))
    seat_sofar =
        let sums = sum_more v ks (seat i k e) in
        λ j. record { row = d'.row; bits = d'.bits; count = d.count; said = said'; waiting = sym waiting_more j; sum = sums j }

  -- ---- a line of a cell

  less_by : (t : Bool) (a b : ℕ) → (t ≡ true → a ≡ b + 1) → (t ≡ false → a ≡ b) → a - cond t 1 0 ≡ b
  less_by true a b f g = let h = f refl in omega arith
  less_by false a b f g = let h = g refl in omega arith

  heard_gives : (key : Key) (x : Told ReplyLabel) → has_key key x ≡ true → (l : ReplyLabel) × ((x ≡ gives l) × (key ≡ key_in l))
  heard_gives key (gives l) h = (l, (refl, same_key_case key (key_in l) h))
  heard_gives key (refuses why) h = absurd (false≢true h)

  module _ (ks : List Token) (d : Memory) (said : ℕ) (b : Shows ks d said) (i : ℕ) (bytes : List ℕ) (f : fits v (cell i bytes) ≡ true) (t : heard_taken (sofar ks d said) i (heard (framed bytes)) ≡ true) (room : d.count < v.cells) where
    abbrev got : Told ReplyLabel
    got = heard (framed bytes)

    abbrev status : ℕ
    status = status_in got

    record Fits : Type 0 where
      below : i < v.seats
      long : length bytes ≡ middle_size
      used : used_bit d.bits i ≡ true
      keyed : has_key (seat_key (seat_at d.row i)) got ≡ true
      steps : goes (step (progress_of (seat_at d.row i)) true status) ≡ true
      said_so : not (ends status) || used_bit said i ≡ true

    it_fits : Fits
    unfolding fits heard_taken
    it_fits =
        let x = ltb i v.seats in
        let y = eqb (length bytes) middle_size in
        let xy = and_l (x && y) (every within bytes) f in
        let a = used_bit d.bits i in
        let c = has_key (seat_key (seat_at d.row i)) got in
        let g = goes (step (progress_of (seat_at d.row i)) true status) in
        let z = not (ends status) || used_bit said i in
        let acg = and_l (a && c && g) z t in
        let ac = and_l (a && c) g acg in
        record {
          below = ltb-true _ _ (and_l x y xy);
          long = eqb-true _ _ (and_r x y xy);
          used = and_l a c ac;
          keyed = and_r a c ac;
          steps = and_r (a && c) g acg;
          said_so = and_r (a && c && g) z t;
        }

    pub label : (l : ReplyLabel) × ((got ≡ gives l) × (seat_key (seat_at d.row i) ≡ key_in l))
    label = heard_gives (seat_key (seat_at d.row i)) got it_fits.keyed

    in_row : i < seat_count
    in_row = let a = sound.seats in let c = it_fits.below in omega arith

    pub takes : Took d (framed bytes) (record { seat = i; status = status })
    takes = record {
      facts = b.facts;
      label = label.0;
      hears = label.1.0;
      status = sym (ap status_in label.1.0);
      found = one_seat d (key_in label.0) i b.facts in_row (keyed_at_law d.row d.bits i (key_in label.0) it_fits.used label.1.1);
      below = in_row;
      steps = it_fits.steps;
      room = rw b.size room;
    }

    abbrev e' : Memory
    e' = taken d (framed bytes) (record { seat = i; status = status })

    middle_back : middle (framed bytes) ≡ bytes
    middle_back = take_at bytes (CR ∷ []) 49 it_fits.long

    cell_tokens_law : ks ++ (cell i bytes ∷ []) ≡ front_tokens v e' (said_in said)
    unfolding front_tokens cell_tokens
    cell_tokens_law =
        let seats : seat_tokens v e' (said_in said) v.seats ≡ seat_tokens v d (said_in said) v.seats =
        seats_same v d e' (said_in said) (said_in said) v.seats (λ j l. refl) (λ j l u. (taken_key d _ _ takes j, refl)) in
        let cells : cell_tokens v e' d.count ≡ cell_tokens v d d.count =
        cells_same v d e' d.count (old_mark d _ _ takes) (old_cell d _ _ takes) in
        let was : ks ≡ first ∷ (seat_tokens v d (said_in said) v.seats ++ cell_tokens v d d.count) = b.tokens in
        rw (was, seats, add-one d.count, cells, new_mark d _ _ takes, new_cell d _ _ takes, middle_back)
        (ap (λ (l : List Token). first ∷ l) (append_assoc (seat_tokens v d (said_in said) v.seats) (cell_tokens v d d.count) (cell i bytes ∷ [])))

    -- the seat had not ended; it has now, if the reply ends it
    going : (seat_at d.row i).ended ≡ 0
    going =
        let p = progress_of (seat_at d.row i) in
        eqb-true _ _ (and_l (eqb p.ended 0) (in_place p.held status) (sym (goes_step p status) ∙ it_fits.steps))

    ended_now : (seat_at e'.row i).ended ≡ cond (ends status) 1 0
    ended_now = rw (taken_own d _ _ takes)

    ends_said : ends status ≡ true → used_bit said i ≡ true
    ends_said h = rw h at it_fits.said_so

    stays : (j : ℕ) → (j ≡ i → ⊥) → waits_at d (used_bit said) j ≡ waits_at e' (used_bit said) j
    stays j n = rw (taken_other d _ _ takes j n)

    waiting_less : waiting_at d said - cond (ends status) 1 0 ≡ waiting_at e' said
    waiting_less =
        less_by (ends status) (waiting_at d said) (waiting_at e' said)
        (λ h. let was : waits_at d (used_bit said) i ≡ true = and_true it_fits.used (and_true (ends_said h) (eq-eqb _ _ going)) in
        let is : waits_at e' (used_bit said) i ≡ false = rw (it_fits.used, ends_said h, ended_now, h) in
        count_turned seat_count i (waits_at e' (used_bit said)) (waits_at d (used_bit said)) in_row is was stays)
        (λ h. let same : waits_at d (used_bit said) i ≡ waits_at e' (used_bit said) i = rw (ended_now, h, going) in
        count_ext seat_count (waits_at d (used_bit said)) (waits_at e' (used_bit said)) (λ j l. eq-case j i (λ q. rw q same) (stays j)))

    still_unsaid : (j : ℕ) → j < seat_count → used_bit d.bits j ≡ true → ((seat_at e'.row j).ended ≡ 0 → ⊥) → used_bit said j ≡ true
    still_unsaid j l u n =
        eq-case j i
        (λ q. by-test (ends status) (λ h. rw q (ends_said h)) (λ h. absurd (n (rw q (ended_now ∙ rw h)))))
        (λ q. b.unsaid j l u (λ z. n (rw (taken_other d _ _ takes j q) z)))

    pub cell_shows : Shows (ks ++ (cell i bytes ∷ [])) e' said
    cell_shows = record {
      facts = taken_desk d _ _ takes;
      size = taken_capacity d _ _ takes ∙ b.size;
      few = b.few;
      tokens = cell_tokens_law;
      marked = b.marked;
      unsaid = still_unsaid;
    }

    pub cell_sofar : sofar (ks ++ (cell i bytes ∷ [])) e' said ≡ with_cell (sofar ks d said) i status (sum_of (write v (cell i bytes)))
    cell_sofar =
        let sums = sum_more v ks (cell i bytes) in
        λ j. record { row = e'.row; bits = d.bits; count = d.count + 1; said = said; waiting = sym waiting_less j; sum = sums j }

  -- ---- the desk goes on to the ends of its seats

  shown_as : (x d : Memory) (said : ℕ) → x.bits ≡ d.bits → ((j : ℕ) → seat_key (seat_at x.row j) ≡ seat_key (seat_at d.row j))
      → ((j : ℕ) → j < seat_count → used_bit d.bits j ≡ true → (seat_at x.row j).ended ≡ said_in said j) → seat_tokens v x (ended_at v x) v.seats ≡ seat_tokens v d (said_in said) v.seats
  shown_as x d said bits keys ended =
      seats_same v d x (said_in said) (ended_at v x) v.seats (λ j l. rw bits) (λ j l u. (keys j, ended j (let a = sound.seats in omega arith) u))

  is_showable : (x : Memory) → Facts x → x.bits < 2 ^ v.seats → x.count ≤ v.cells → showable v x ≡ true
  unfolding showable
  is_showable x f h k = and_true (and_true (facts_desk x f) (lt-ltb _ _ h)) (le-leb _ _ k)

  parted : (st ct r e : List Token) → (first ∷ (st ++ (ct ++ r))) ++ e ≡ (first ∷ (st ++ ct)) ++ (r ++ e)
  parted st ct r e = ap (λ (l : List Token). first ∷ l) (ap (λ (l : List Token). l ++ e) (sym (append_assoc st ct r)) ∙ append_assoc (st ++ ct) r e)

  pub record GoesOn (ks : List Token) : Type 0 where
    pub made : Memory
    pub good : showable v made ≡ true
    pub rest : List Token
    pub goes : tokens v made ≡ ks ++ rest

  pub goes_on : (ks : List Token) (d : Memory) (said : ℕ) → Shows ks d said → d.count + waiting_at d said ≤ v.cells → GoesOn ks
  unfolding tokens front_tokens
  goes_on ks d said b room =
      let can : CanEnd d (used_bit said) = record { none_unsaid = b.unsaid; cells_enough = rw b.size room } in
      let x = facts_can_end d (used_bit said) b.facts can in
      let m = x.0 in
      let facts = x.1.0 in
      let ends = x.1.1 in
      let more = cells_on v m d.count m.count ends.no_fewer in
      let seats = shown_as m d said ends.bits ends.keys ends.as_said in
      let cells = cells_same v d m d.count ends.marks ends.cells in
      let end = last m.count (sum_of (front v m) % sum_modulus) ∷ [] in
      let st = seat_tokens v d (said_in said) v.seats in
      let ct = cell_tokens v d d.count in
      let fronts = ap₂ (λ (a c : List Token). a ++ c) seats (more.1 ∙ ap (λ (l : List Token). l ++ more.0) cells) in
      record {
        made = m;
        good = is_showable m facts (rw ends.bits b.few) (let f = facts.fits in let e = ends.size in let g = b.size in omega arith);
        rest = more.0 ++ end;
        goes = ap (λ (l : List Token). (first ∷ l) ++ end) fronts ∙ parted st ct more.0 end ∙ ap (λ (l : List Token). l ++ (more.0 ++ end)) (sym b.tokens);
      }

  -- ---- a desk whose seats have all ended as said is the one that is shown

  none_waits : (d : Memory) (said j : ℕ) → waiting_at d said ≡ 0 → j < seat_count → waits_at d (used_bit said) j ≡ false
  none_waits d said j z l = false_or (waits_at d (used_bit said) j) (λ w. let c = count_some seat_count j (waits_at d (used_bit said)) l w in omega arith)

  as_said : (ks : List Token) (d : Memory) (said : ℕ) → Shows ks d said → waiting_at d said ≡ 0 → (j : ℕ) → j < seat_count → used_bit d.bits j ≡ true → (seat_at d.row j).ended ≡ said_in said j
  as_said ks d said b z j l u =
      let most = ended_most d j b.facts l u in
      by-test (used_bit said j)
      (λ h. let not_zero : eqb (seat_at d.row j).ended 0 ≡ false = rw (u, h) at (none_waits d said j z l) in
      let n = eqb-false (seat_at d.row j).ended 0 not_zero in rw h (omega arith))
      (λ h. rw h (by-test (eqb (seat_at d.row j).ended 0) (λ q. eqb-true _ _ q) (λ q. absurd (false≢true (sym h ∙ b.unsaid j l u (eqb-false _ _ q))))))

  seats_front : (d : Memory) (f g : ℕ → ℕ) → seat_tokens v d f v.seats ≡ seat_tokens v d g v.seats → front_tokens v d f ≡ front_tokens v d g
  unfolding front_tokens
  seats_front d f g e = ap (λ (l : List Token). first ∷ (l ++ cell_tokens v d d.count)) e

  pub shown_whole : (ks : List Token) (d : Memory) (said : ℕ) → Shows ks d said → waiting_at d said ≡ 0 → d.count ≤ v.cells
      → (showable v d ≡ true) × (tokens v d ≡ ks ++ (last d.count (sum_of (write_all (code v) ks) % sum_modulus) ∷ []))
  unfolding tokens
  shown_whole ks d said b z room =
      let seats = shown_as d d said refl (λ j. refl) (as_said ks d said b z) in
      let same : front_tokens v d (ended_at v d) ≡ ks = seats_front d (ended_at v d) (said_in said) seats ∙ sym b.tokens in
      let sums : front v d ≡ write_all (code v) ks = sym (front_tokens_law v d) ∙ ap (write_all (code v)) same in
      (is_showable d b.facts b.few room, ap₂ (λ (l : List Token) (t : List ℕ). l ++ (last d.count (sum_of t % sum_modulus) ∷ [])) same sums)
