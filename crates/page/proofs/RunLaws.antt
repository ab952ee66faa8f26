-- The machine takes the page of every desk that the version can show, and has built that desk's seats at the end. Assumes nothing.
use Rattle.std.proofs.Common.{◌≡◌, ℕ, zero, suc, ◌+◌, ◌*◌, ◌%◌, ◌^◌, ◌<◌, ◌≤◌, Bool, true, false, cond, not, ◌&&◌, ◌||◌, eqb, ltb, List, [], ◌∷◌, ◌++◌, sym, refl, ap, ◌∙◌, subst, append_assoc, append-nil, add-one, arith, ext_get_or, pow_mono, ltb-false, ltb-true, le-ltb, lt-ltb, eq-eqb, eqb-true, le-leb}
use mathlib.Core.Bool.{false≢true}
use native.Mathlib.Nat.{div-eq_of_lt}
use Rattle.digits.proofs.Tests.{by-test, by_less, and_true, and_l, and_r}
use Rattle.lines.specs.Lines.{every}
use Rattle.lines.specs.Machine.{next, after}
use Rattle.lines.proofs.Tests.{every_append}
use Rattle.lines.proofs.ReadLaws.{after_two}
use Rattle.desk.specs.declared.state.Seat.{Seat}
use Rattle.desk.specs.declared.key.Key.{Key}
use Rattle.desk.specs.declared.step.Progress.{Progress}
use Rattle.desk.specs.Limits.{seat_count}
use Rattle.desk.specs.Key.{seat_key}
use Rattle.desk.specs.Hearing.{heard, status_in, ends, in_place}
use Rattle.desk.specs.Step.{progress_of, advanced, none, replay}
use Rattle.desk.specs.Seats.{zero_seat, seat_at, used_bit, keyed_at, seat_with}
use Rattle.desk.specs.Memory.{Memory, cell_at, mark_at, records_of}
use Rattle.desk.specs.Desk.{is_zero, mark_good, cell_keyed}
use Rattle.desk.specs.Replay.{replayed, taken_at}
use Rattle.desk.specs.Calls.{opened, taken, emptied}
use Rattle.desk.proofs.Below.{never, false_or, eq-case, below-case, first_none, count_none}
use Rattle.desk.proofs.Bits.{none_used, set_below, same_bits}
use Rattle.desk.proofs.ReplayLaws.{goes_step, replayed_next, Facts, keyed_at_law, marked, mark_used, cell_keyed_law}
use Rattle.desk.proofs.StepLaws.{keyed_used, keyed_key}
use Rattle.desk.proofs.DeskLaws.{records_same, taken_key, old_mark, new_mark, old_cell, new_cell, opened_own, opened_other, opened_bit, other_bit}
use Rattle.page.specs.Version.{Version, Sound}
use Rattle.page.specs.Sum.{sum_of, sum_modulus}
use Rattle.page.specs.Page.{middle, front}
use Rattle.page.specs.inside.Tokens.{Token, first, seat, cell, last, fits, seat_tokens, cell_tokens, front_tokens, ended_at, tokens}
use Rattle.page.specs.inside.Machine.{Body, heading, body, over, framed, seat_taken, heard_taken, builder}
use Rattle.page.specs.inside.Ending.{waits_at}
use Rattle.page.proofs.EndingLaws.{ended_most}
use Rattle.page.proofs.MiddleLaws.{framed_cell, middle_within, middle_long}
use Rattle.page.proofs.TokenLaws.{front_tokens_law}
use Rattle.page.proofs.BuildLaws.{above_clear, said_in, Shows, waiting_at, sofar, lent, first_shows, first_sofar, seat_shows, seat_sofar, saying, opens, cell_shows, cell_sofar, takes}

-- a seat in use is below every power that the bits are below
pub used_below : (b i k : ℕ) → b < 2 ^ k → used_bit b i ≡ true → i < k
used_below b i k l u = by_less i k (λ h. h) (λ h. never (used_bit b i) u (above_clear b k i (div-eq_of_lt l) h))

one_more_case : (i n : ℕ) → (i ≡ n → ⊥) → ltb i (suc n) ≡ ltb i n
one_more_case i n e =
    by-test (ltb i n)
    (λ t. let l = ltb-true i n t in rw t (lt-ltb i (suc n) (omega arith)))
    (λ t. let l = ltb-false i n t in rw t (le-ltb i (suc n) (omega arith)))

-- a seat is its key and how far it has come; an unused one is all zero
seat_by : (s t : Seat) → seat_key s ≡ seat_key t → progress_of s ≡ progress_of t → s ≡ t
seat_by s t k p =
    λ i. record { address = (k i).address; requester = (k i).requester; number = (k i).number; held = (p i).held; ended = (p i).ended }

zero_is : (s : Seat) → is_zero s ≡ true → s ≡ zero_seat
unfolding is_zero
zero_is s h =
    let a = eqb s.address 0 in
    let b = eqb s.requester 0 in
    let c = eqb s.number 0 in
    let g = eqb s.held 0 in
    let e = eqb s.ended 0 in
    let h4 = and_l (a && b && c && g) e h in
    let h3 = and_l (a && b && c) g h4 in
    let h2 = and_l (a && b) c h3 in
    let ea = eqb-true s.address 0 (and_l a b h2) in
    let eb = eqb-true s.requester 0 (and_r a b h2) in
    let ec = eqb-true s.number 0 (and_r (a && b) c h3) in
    let eg = eqb-true s.held 0 (and_r (a && b && c) g h4) in
    let ee = eqb-true s.ended 0 (and_r (a && b && c && g) e h) in
    λ i. record { address = ea i; requester = eb i; number = ec i; held = eg i; ended = ee i }

module _ (v : Version) (sound : Sound v) (d : Memory) (f : Facts d) (few : d.bits < 2 ^ v.seats) (short : d.count ≤ v.cells) where
  abbrev ended : ℕ → ℕ
  ended = ended_at v d

  -- ---- the machine follows the desk: after these tokens it keeps a desk m with the first seats of d, below n, and its first rows

  record Follows (n : ℕ) (ks : List Token) (m : Memory) (said : ℕ) : Type 0 where
    shows : Shows v sound ks m said
    run : after (builder v) heading ks ≡ next (body (sofar v sound ks m said))
    fit : every (fits v) ks ≡ true
    low : m.bits < 2 ^ n
    bits : (i : ℕ) → used_bit m.bits i ≡ used_bit d.bits i && ltb i n
    keys : (i : ℕ) → i < n → used_bit d.bits i ≡ true → seat_key (seat_at m.row i) ≡ seat_key (seat_at d.row i)
    says : (i : ℕ) → i < n → used_bit d.bits i ≡ true → said_in said i ≡ ended i
    marks : (j : ℕ) → j < m.count → mark_at m.marks j ≡ mark_at d.marks j
    cells : (j : ℕ) → j < m.count → cell_at m.cells j ≡ cell_at d.cells j

  run_more : (ks : List Token) (k : Token) (s q : Body) → after (builder v) heading ks ≡ next (body s) → (builder v).step (body s) k ≡ next (body q) → after (builder v) heading (ks ++ (k ∷ [])) ≡ next (body q)
  unfolding after
  run_more ks k s q a e = after_two (builder v) heading (body s) ks (k ∷ []) a ∙ rw e

  fit_more : (ks : List Token) (k : Token) → every (fits v) ks ≡ true → fits v k ≡ true → every (fits v) (ks ++ (k ∷ [])) ≡ true
  fit_more ks k a b = every_append (fits v) ks (k ∷ []) a (and_true b refl)

  -- ---- the first line

  follows_first : Follows 0 (first ∷ []) (emptied (lent v sound)) 0
  unfolding after fits
  follows_first = record {
    shows = first_shows v sound;
    run = ap (λ (s : Body). next (body s)) (sym (first_sofar v sound));
    fit = refl;
    low = omega arith;
    bits = λ i. none_used i ∙ sym (and_none (used_bit d.bits i) (le-ltb i 0 (omega arith)));
    keys = λ i l u. absurd (omega arith);
    says = λ i l u. absurd (omega arith);
    marks = λ j l. absurd (omega arith);
    cells = λ j l. absurd (omega arith);
  }
    where
      and_none : (a : Bool) {b : Bool} → b ≡ false → a && b ≡ false
      and_none true e = e
      and_none false e = refl

  -- ---- a seat that is not in use has no line

  follows_unused : (n : ℕ) (ks : List Token) (m : Memory) (said : ℕ) → used_bit d.bits n ≡ false → Follows n ks m said → Follows (suc n) ks m said
  follows_unused n ks m said u h = record {
    shows = h.shows;
    run = h.run;
    fit = h.fit;
    low = let p = pow_mono {i = n} {j = suc n} (omega arith) in let l = h.low in omega arith;
    bits = λ i. h.bits i ∙ eq-case i n (λ q. rw (q, u)) (λ q. ap (λ (x : Bool). used_bit d.bits i && x) (sym (one_more_case i n q)));
    keys = λ i l w. h.keys i (smaller i l w) w;
    says = λ i l w. h.says i (smaller i l w) w;
    marks = h.marks;
    cells = h.cells;
  }
    where
      smaller : (i : ℕ) → i < suc n → used_bit d.bits i ≡ true → i < n
      smaller i l w = below-case i n l (λ k. k) (λ q. absurd (false≢true (sym u ∙ (rw q at w))))

  -- ---- the line of a used seat

  module _ (n : ℕ) (ks : List Token) (m : Memory) (said : ℕ) (below : n < v.seats) (u : used_bit d.bits n ≡ true) (h : Follows n ks m said) (z : m.count ≡ 0) where
    abbrev key : Key
    key = seat_key (seat_at d.row n)

    abbrev token : Token
    token = seat n key (ended n)

    in_row : n < seat_count
    in_row = let a = sound.seats in omega arith

    token_fits : fits v token ≡ true
    unfolding fits
    token_fits = and_true (and_true (lt-ltb n v.seats below) (f.keys n in_row u)) (le-leb (ended n) 1 (ended_most d n f in_row u))

    -- no seat that was read has its key
    unkeyed : (i : ℕ) → i < seat_count → keyed_at m.row m.bits key i ≡ false
    unkeyed i l = false_or (keyed_at m.row m.bits key i) (λ k.
        let both : used_bit d.bits i && ltb i n ≡ true = sym (h.bits i) ∙ keyed_used m.row m.bits key i k in
        let used = and_l (used_bit d.bits i) (ltb i n) both in
        let less = ltb-true i n (and_r (used_bit d.bits i) (ltb i n) both) in
        let same : seat_key (seat_at d.row i) ≡ key = sym (h.keys i less used) ∙ keyed_key m.row m.bits key i k in
        let e = f.one key i n l in_row (keyed_at_law d.row d.bits i key used same) (keyed_at_law d.row d.bits n key u refl) in
        omega arith)

    token_taken : seat_taken (sofar v sound ks m said) n key ≡ true
    unfolding seat_taken seat_with
    token_taken =
        let fresh : seat_with m.row m.bits key ≡ seat_count = first_none seat_count (keyed_at m.row m.bits key) unkeyed in
        and_true (and_true (eq-eqb _ _ z) (eq-eqb _ _ (div-eq_of_lt h.low))) (le-leb seat_count (seat_with m.row m.bits key) (omega (arith, fresh)))

    abbrev m' : Memory
    m' = opened m (record { seat = n; key = key })

    follows_seat : Follows (suc n) (ks ++ (token ∷ [])) m' (said + ended n * 2 ^ n)
    follows_seat =
        let b = h.shows in
        let o = opens v sound ks m said b n key (ended n) token_fits token_taken in
        let a = saying v sound ks m said b n key (ended n) token_fits token_taken in
        let off : used_bit m.bits n ≡ false = o.clear in
        record {
          shows = seat_shows v sound ks m said b n key (ended n) token_fits token_taken;
          run = run_more ks token (sofar v sound ks m said) _ h.run (rw token_taken (ap (λ (s : Body). next (body s)) (sym (seat_sofar v sound ks m said b n key (ended n) token_fits token_taken))));
          fit = fit_more ks token h.fit token_fits;
          low = set_below (suc n) m.bits n (let p = pow_mono {i = n} {j = suc n} (omega arith) in let l = h.low in omega arith) (omega arith) off;
          bits = λ i. eq-case i n
              (λ q. rw q (opened_bit m _ o ∙ sym (and_true u (lt-ltb n (suc n) (omega arith)))))
              (λ q. other_bit m _ o i q ∙ h.bits i ∙ ap (λ (x : Bool). used_bit d.bits i && x) (sym (one_more_case i n q)));
          keys = λ i l w. eq-case i n
              (λ q. rw q (ap seat_key (opened_own m _ o)))
              (λ q. ap seat_key (opened_other m _ o i q) ∙ h.keys i (omega arith) w);
          says = λ i l w. eq-case i n
              (λ q. rw q a.own)
              (λ q. ap (λ (x : Bool). cond x 1 0) (a.others i q) ∙ h.says i (omega arith) w);
          marks = h.marks;
          cells = h.cells;
        }

  -- ---- all seats

  record To (n : ℕ) (ks : List Token) (count : ℕ) : Type 0 where
    desk : Memory
    said : ℕ
    follows : Follows n ks desk said
    held : desk.count ≡ count

  one_seat_more : (n : ℕ) → n < v.seats → used_bit d.bits n ≡ true → (ks : List Token) → To n ks 0 → To (suc n) (ks ++ (seat n (seat_key (seat_at d.row n)) (ended n) ∷ [])) 0
  one_seat_more n l u ks x =
      record {
        desk = opened x.desk (record { seat = n; key = seat_key (seat_at d.row n) });
        said = x.said + ended n * 2 ^ n;
        follows = follows_seat n ks x.desk x.said l u x.follows x.held;
        held = x.held;
      }

  no_seat_more : (n : ℕ) → used_bit d.bits n ≡ false → (ks : List Token) → To n ks 0 → To (suc n) ks 0
  no_seat_more n u ks x = record { desk = x.desk; said = x.said; follows = follows_unused n ks x.desk x.said u x.follows; held = x.held }

  no_token : seat_tokens v d ended 0 ≡ []
  unfolding seat_tokens
  no_token = refl

  with_token : (n : ℕ) → used_bit d.bits n ≡ true → seat_tokens v d ended (suc n) ≡ seat_tokens v d ended n ++ (seat n (seat_key (seat_at d.row n)) (ended n) ∷ [])
  unfolding seat_tokens
  with_token n u = rw u

  without_token : (n : ℕ) → used_bit d.bits n ≡ false → seat_tokens v d ended (suc n) ≡ seat_tokens v d ended n
  unfolding seat_tokens
  without_token n u = rw (u, append-nil)

  seats_to : (n : ℕ) → n ≤ v.seats → To n (first ∷ seat_tokens v d ended n) 0
  seats_to zero l =
      let here : To 0 (first ∷ []) 0 = record { desk = emptied (lent v sound); said = 0; follows = follows_first; held = refl } in
      subst (λ (ks : List Token). To 0 (first ∷ ks) 0) (sym no_token) here
  seats_to (suc n) l =
      let x = seats_to n (omega arith) in
      by-test (used_bit d.bits n)
      (λ u. subst (λ (ks : List Token). To (suc n) (first ∷ ks) 0) (sym (with_token n u)) (one_seat_more n l u (first ∷ seat_tokens v d ended n) x))
      (λ u. subst (λ (ks : List Token). To (suc n) (first ∷ ks) 0) (sym (without_token n u)) (no_seat_more n u (first ∷ seat_tokens v d ended n) x))

  -- ---- what has ended stays so

  row_taken_law : (j : ℕ) → j < d.count → taken_at d.cells d.marks j ≡ true
  row_taken_law j l =
      let c = cell_keyed d.row d.cells d.marks j in
      let t = taken_at d.cells d.marks j in
      and_r c t (and_r (mark_good d.bits d.marks j) (c && t) (f.rows j l))

  abbrev came : ℕ → ℕ → Progress
  came i n = replayed d.cells d.marks i n

  abbrev status_at : ℕ → ℕ
  status_at j = status_in (heard (cell_at d.cells j))

  stays_ended : (j n : ℕ) → j < n → n ≤ d.count → ends (status_at j) ≡ true → (came (mark_at d.marks j) n).ended ≡ 1
  stays_ended j zero l k e = absurd (omega arith)
  stays_ended j (suc n) l k e =
      let i = mark_at d.marks j in
      let next_one : came i (suc n) ≡ cond (eqb (mark_at d.marks n) i) (advanced (came i n) (status_at n)) (came i n) = rw (← add-one n) (replayed_next d.cells d.marks i n) in
      below-case j n l
      (λ h. let was = stays_ended j n h (omega arith) e in
      by-test (eqb (mark_at d.marks n) i)
      (λ q. let same = eqb-true (mark_at d.marks n) i q in
      let taken = sym (goes_step (came i n) (status_at n)) ∙ (rw same at (row_taken_law n (omega arith))) in
      let zero-then = eqb-true (came i n).ended 0 (and_l (eqb (came i n).ended 0) (in_place (came i n).held (status_at n)) taken) in
      absurd (omega arith))
      (λ q. let kept : came i (suc n) ≡ came i n = next_one ∙ rw q in ap (λ (p : Progress). p.ended) kept ∙ was))
      (λ h. let own : eqb (mark_at d.marks n) i ≡ true = eq-eqb (mark_at d.marks n) i (ap (mark_at d.marks) (sym h)) in
      let now : came i (suc n) ≡ advanced (came i n) (status_at n) = next_one ∙ rw own in
      let over : ends (status_at n) ≡ true = ap (λ (k : ℕ). ends (status_at k)) (sym h) ∙ e in
      ap (λ (p : Progress). p.ended) now ∙ rw over)

  -- ---- the line of a cell

  module _ (ks : List Token) (m : Memory) (said j : ℕ) (h : Follows v.seats ks m said) (z : m.count ≡ j) (l : j < d.count) where
    abbrev at : ℕ
    at = mark_at d.marks j

    abbrev frame : List ℕ
    frame = cell_at d.cells j

    abbrev line : Token
    line = cell at (middle frame)

    whole : framed (middle frame) ≡ frame
    whole = framed_cell d f j l

    used : used_bit d.bits at ≡ true
    used = mark_used d f j l

    below_seats : at < v.seats
    below_seats = used_below d.bits at v.seats few used

    used_there : used_bit m.bits at ≡ true
    used_there = h.bits at ∙ and_true used (lt-ltb at v.seats below_seats)

    line_fits : fits v line ≡ true
    unfolding fits
    line_fits = and_true (and_true (lt-ltb at v.seats below_seats) (eq-eqb _ _ (middle_long d f j l))) (middle_within d f j l)

    so_far : progress_of (seat_at m.row at) ≡ came at j
    so_far =
        h.shows.facts.agree at (marked d f j l) used_there
        ∙ ap (replay none) (records_same d.cells d.marks m.cells m.marks at m.count h.marks h.cells ∙ ap (records_of d.cells d.marks at) z)

    says_so : not (ends (status_at j)) || used_bit said at ≡ true
    says_so =
        by-test (ends (status_at j))
        (λ e. let one = ap (λ (p : Progress). p.ended) (f.agree at (marked d f j l) used) ∙ stays_ended j d.count l (omega arith) e in
        let is : said_in said at ≡ 1 = h.says at below_seats used ∙ one in
        rw e (by-test (used_bit said at) (λ q. q) (λ q. let no : 0 ≡ 1 = rw q at is in absurd (omega arith))))
        (λ e. rw e)

    line_taken : heard_taken (sofar v sound ks m said) at (heard (framed (middle frame))) ≡ true
    unfolding heard_taken
    line_taken = rw whole (and_true (and_true (and_true used_there (rw (h.keys at below_seats used) (cell_keyed_law d f j l))) (rw so_far (row_taken_law j l))) says_so)

    room : m.count < v.cells
    room = omega arith

    follows_cell : Follows v.seats (ks ++ (line ∷ [])) (taken m (framed (middle frame)) (record { seat = at; status = status_in (heard (framed (middle frame))) })) said
    follows_cell =
        let b = h.shows in
        let t = takes v sound ks m said b at (middle frame) line_fits line_taken room in
        record {
          shows = cell_shows v sound ks m said b at (middle frame) line_fits line_taken room;
          run = run_more ks line (sofar v sound ks m said) _ h.run (rw line_taken (ap (λ (s : Body). next (body s)) (sym (cell_sofar v sound ks m said b at (middle frame) line_fits line_taken room))));
          fit = fit_more ks line h.fit line_fits;
          low = h.low;
          bits = h.bits;
          keys = λ i k w. taken_key m _ _ t i ∙ h.keys i k w;
          says = h.says;
          marks = λ i k. below-case i m.count (omega arith) (λ q. old_mark m _ _ t i q ∙ h.marks i q) (λ q. rw q (new_mark m _ _ t ∙ ap (mark_at d.marks) (sym z)));
          cells = λ i k. below-case i m.count (omega arith) (λ q. old_cell m _ _ t i q ∙ h.cells i q) (λ q. rw q (new_cell m _ _ t ∙ whole ∙ ap (cell_at d.cells) (sym z)));
        }

  one_row_more : (j : ℕ) → j < d.count → (ks : List Token) → To v.seats ks j → To v.seats (ks ++ (cell (mark_at d.marks j) (middle (cell_at d.cells j)) ∷ [])) (suc j)
  one_row_more j l ks x =
      record {
        desk = taken x.desk (framed (middle (cell_at d.cells j))) (record { seat = mark_at d.marks j; status = status_in (heard (framed (middle (cell_at d.cells j)))) });
        said = x.said;
        follows = follows_cell ks x.desk x.said j x.follows x.held l;
        held = let e = x.held in omega arith;
      }

  no_cell : cell_tokens v d 0 ≡ []
  unfolding cell_tokens
  no_cell = refl

  with_cell_law : (j : ℕ) → cell_tokens v d (suc j) ≡ cell_tokens v d j ++ (cell (mark_at d.marks j) (middle (cell_at d.cells j)) ∷ [])
  unfolding cell_tokens
  with_cell_law j = refl

  rows_to : (j : ℕ) → j ≤ d.count → To v.seats (first ∷ (seat_tokens v d ended v.seats ++ cell_tokens v d j)) j
  rows_to zero l =
      let st = seat_tokens v d ended v.seats in
      subst (λ (ks : List Token). To v.seats (first ∷ ks) 0) (sym (ap (λ (ks : List Token). st ++ ks) no_cell ∙ append-nil st)) (seats_to v.seats (omega arith))
  rows_to (suc j) l =
      let st = seat_tokens v d ended v.seats in
      subst (λ (ks : List Token). To v.seats (first ∷ ks) (suc j)) (append_assoc st (cell_tokens v d j) _ ∙ sym (ap (λ (ks : List Token). st ++ ks) (with_cell_law j)))
      (one_row_more j l (first ∷ (st ++ cell_tokens v d j)) (rows_to j (omega arith)))

  -- ---- at the end the desk that was followed has the row and the bits of d

  module _ (ks : List Token) (m : Memory) (said : ℕ) (h : Follows v.seats ks m said) (z : m.count ≡ d.count) where
    seats_inside : v.seats ≤ seat_count
    seats_inside = sound.seats

    same_used : (i : ℕ) → used_bit m.bits i ≡ used_bit d.bits i
    same_used i =
        by-test (used_bit d.bits i)
        (λ u. h.bits i ∙ rw u (lt-ltb i v.seats (used_below d.bits i v.seats few u)))
        (λ u. h.bits i ∙ rw u)

    same_bits_there : m.bits ≡ d.bits
    same_bits_there = same_bits v.seats m.bits d.bits h.low few (λ i l. same_used i)

    same_progress : (i : ℕ) → i < seat_count → used_bit d.bits i ≡ true → progress_of (seat_at m.row i) ≡ progress_of (seat_at d.row i)
    same_progress i l u =
        h.shows.facts.agree i l (same_used i ∙ u)
        ∙ ap (replay none) (records_same d.cells d.marks m.cells m.marks i m.count h.marks h.cells ∙ ap (records_of d.cells d.marks i) z)
        ∙ sym (f.agree i l u)

    same_seat : (i : ℕ) → i < seat_count → seat_at m.row i ≡ seat_at d.row i
    same_seat i l =
        by-test (used_bit d.bits i)
        (λ u. seat_by (seat_at m.row i) (seat_at d.row i) (h.keys i (used_below d.bits i v.seats few u) u) (same_progress i l u))
        (λ u. zero_is (seat_at m.row i) (h.shows.facts.zeros i l (same_used i ∙ u)) ∙ sym (zero_is (seat_at d.row i) (f.zeros i l u)))

    same_row : m.row ≡ d.row
    same_row =
        let a = h.shows.facts.size in
        let b = f.size in
        ext_get_or zero_seat m.row d.row (a ∙ sym b) (λ i l. same_seat i (omega arith))

    none_waits : waiting_at v sound m said ≡ 0
    none_waits = count_none seat_count (waits_at m (used_bit said)) (λ i l.
        by-test (used_bit d.bits i)
        (λ u. let says = h.says i (used_below d.bits i v.seats few u) u in
        by-test (used_bit said i)
        (λ q. let one : ended i ≡ 1 = sym says ∙ rw q in rw (same_used i, u, q, same_seat i l, one))
        (λ q. rw (same_used i, u, q)))
        (λ u. rw (same_used i, u)))

  -- ---- the whole page

  pub record Ran : Type 0 where
    pub state : Body
    pub reaches : after (builder v) heading (tokens v d) ≡ next (over state)
    pub fit : every (fits v) (tokens v d) ≡ true
    pub roomy : state.count + state.waiting ≤ v.cells
    pub row : state.row ≡ d.row
    pub bits : state.bits ≡ d.bits
    pub count : state.count ≡ d.count

  pub ran : Ran
  unfolding tokens front_tokens after fits
  ran =
      let x = rows_to d.count (omega arith) in
      let ks = front_tokens v d ended in
      let m = x.desk in
      let said = x.said in
      let h : Follows v.seats ks m said = x.follows in
      let s = sofar v sound ks m said in
      let z = none_waits ks m said h x.held in
      let sums : sum_of (front v d) % sum_modulus ≡ s.sum % sum_modulus = ap (λ (t : List ℕ). sum_of t % sum_modulus) (sym (front_tokens_law v d)) in
      let test : eqb d.count m.count && eqb (sum_of (front v d) % sum_modulus) (s.sum % sum_modulus) && eqb s.waiting 0 ≡ true =
      and_true (and_true (eq-eqb _ _ (sym x.held)) (eq-eqb _ _ sums)) (eq-eqb _ _ z) in
      let small : fits v (last d.count (sum_of (front v d) % sum_modulus)) ≡ true =
      and_true (lt-ltb d.count 10000 (let a = sound.cells in omega arith)) (lt-ltb (sum_of (front v d) % sum_modulus) 100000 (omega arith)) in
      record {
        state = s;
        reaches = after_two (builder v) heading (body s) ks (last d.count (sum_of (front v d) % sum_modulus) ∷ []) h.run ∙ rw test;
        fit = fit_more ks (last d.count (sum_of (front v d) % sum_modulus)) h.fit small;
        roomy = let e = x.held in omega arith;
        row = same_row ks m said h x.held;
        bits = same_bits_there ks m said h x.held;
        count = x.held;
      }
