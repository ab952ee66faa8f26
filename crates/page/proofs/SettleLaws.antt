-- What is said of a desk's seats and can come true does: each seat that waits, from the lowest on, takes its E. Assumes nothing.
use Rattle.std.proofs.Common.{◌≡◌, ℕ, zero, suc, ◌+◌, ◌<◌, ◌≤◌, Bool, true, false, cond, ◌&&◌, eqb, List, refl, ap, ◌∙◌, arith, eqb-true}
use borrow.Author.Tests.{eqb-false}
use Rattle.digits.proofs.Tests.{by-test, and_true, and_l, and_r}
use Rattle.frames.specs.Status.{status_e}
use Rattle.desk.specs.declared.state.Seat.{Seat}
use Rattle.desk.specs.Limits.{seat_count}
use Rattle.desk.specs.Below.{count_below}
use Rattle.desk.specs.Key.{seat_key}
use Rattle.desk.specs.Hearing.{ends}
use Rattle.desk.specs.Seats.{seat_at, used_bit}
use Rattle.desk.specs.Memory.{Memory, capacity, cell_at, mark_at}
use Rattle.desk.specs.Calls.{taken}
use Rattle.desk.proofs.Below.{never, false_or, eq-case}
use Rattle.desk.proofs.ReplayLaws.{Facts, desk_facts, facts_desk}
use Rattle.desk.proofs.StepLaws.{Took}
use Rattle.desk.proofs.DeskLaws.{taken_own, taken_other, taken_key, taken_capacity, old_mark, old_cell, taken_desk}
use Rattle.page.specs.inside.Ending.{ending_frame, waits_at, CanEnd, EndsAs, CanEndDoes}
use Rattle.page.proofs.EndingLaws.{ended_most, takes_ending}

module _ (m : Memory) (said : ℕ → Bool) where
  -- x is m after an E for each seat below n that waits
  record Settled (n : ℕ) (x : Memory) : Type 0 where
    facts : Facts x
    bits : x.bits ≡ m.bits
    keys : (s : ℕ) → seat_key (seat_at x.row s) ≡ seat_key (seat_at m.row s)
    count : x.count ≡ m.count + count_below n (waits_at m said)
    size : capacity x ≡ capacity m
    marks : (j : ℕ) → j < m.count → mark_at x.marks j ≡ mark_at m.marks j
    cells : (j : ℕ) → j < m.count → cell_at x.cells j ≡ cell_at m.cells j
    -- the seats below n are as said, and the others as they were
    settled : (s : ℕ) → s < n → used_bit m.bits s ≡ true → (seat_at x.row s).ended ≡ cond (said s) 1 0
    later : (s : ℕ) → n ≤ s → seat_at x.row s ≡ seat_at m.row s

  -- no seat is looked at yet
  none_settled : Facts m → Settled 0 m
  unfolding count_below
  none_settled d = record {
    facts = d;
    bits = refl;
    keys = λ s. refl;
    count = omega arith;
    size = refl;
    marks = λ j l. refl;
    cells = λ j l. refl;
    settled = λ s l u. absurd (omega arith);
    later = λ s l. refl;
  }

  module _ (n : ℕ) (below : n < seat_count) (x : Memory) (k : Settled n x) where
    -- seat n does not wait: it is as said
    stays : (used_bit m.bits n ≡ true → (seat_at m.row n).ended ≡ cond (said n) 1 0) → waits_at m said n ≡ false → Settled (suc n) x
    unfolding count_below
    stays own w = record {
      facts = k.facts;
      bits = k.bits;
      keys = k.keys;
      count = rw w k.count;
      size = k.size;
      marks = k.marks;
      cells = k.cells;
      settled = λ s l u. eq-case s n (λ e. rw (e, k.later n (omega arith)) (own (rw e at u))) (λ o. k.settled s (omega arith) u);
      later = λ s l. k.later s (omega arith);
    }

    -- seat n waits: it takes its E
    module _ (w : waits_at m said n ≡ true) (room : m.count + count_below n (waits_at m said) < capacity m) where
      abbrev frame : List ℕ
      frame = ending_frame (seat_key (seat_at x.row n))

      used : used_bit m.bits n ≡ true
      used = and_l (used_bit m.bits n) _ w

      wanted : said n && eqb (seat_at m.row n).ended 0 ≡ true
      wanted = and_r (used_bit m.bits n) _ w

      takes : Took x frame (record { seat = n; status = status_e })
      takes =
          let going : (seat_at x.row n).ended ≡ 0 = rw (k.later n (omega arith)) (eqb-true _ 0 (and_r (said n) _ wanted)) in
          takes_ending x n k.facts below (rw k.bits used) going (rw (k.count, k.size) room)

      ends_now : (y : Memory) × Settled (suc n) y
      unfolding count_below ends
      ends_now =
          let c = k.count in (
            taken x frame (record { seat = n; status = status_e }),
            record {
              facts = taken_desk x frame _ takes;
              bits = k.bits;
              keys = λ s. taken_key x frame _ takes s ∙ k.keys s;
              count = rw w (omega (arith, c));
              size = taken_capacity x frame _ takes ∙ k.size;
              marks = λ j l. old_mark x frame _ takes j (omega (arith, c)) ∙ k.marks j l;
              cells = λ j l. old_cell x frame _ takes j (omega (arith, c)) ∙ k.cells j l;
              settled = λ s l u. eq-case s n
                  (λ e. rw (e, and_l (said n) _ wanted) (ap (λ (y : Seat). y.ended) (taken_own x frame _ takes)))
                  (λ o. rw (taken_other x frame _ takes s o) (k.settled s (omega arith) u));
              later = λ s l. taken_other x frame _ takes s (λ e. omega arith) ∙ k.later s (omega arith);
            },
          )

  module _ (d : Facts m) (c : CanEnd m said) where
    -- a seat that does not wait is as said from the start
    as_said : (n : ℕ) → n < seat_count → waits_at m said n ≡ false → used_bit m.bits n ≡ true → (seat_at m.row n).ended ≡ cond (said n) 1 0
    as_said n l w u =
        by-test (eqb (seat_at m.row n).ended 0)
        (λ z. rw (false_or (said n) (λ y. never _ (and_true u (and_true y z)) w)) (eqb-true _ 0 z))
        (λ z.
        let o = eqb-false (seat_at m.row n).ended 0 z in
        let one = ended_most m n d l u in
        rw (c.none_unsaid n l u o) (omega (arith, o, one)))

    -- one seat after the other
    settle : (n : ℕ) → n ≤ seat_count → m.count + count_below n (waits_at m said) ≤ capacity m → (x : Memory) × Settled n x
    unfolding count_below
    settle zero l room = (m, none_settled d)
    settle (suc n) l room =
        by-test (waits_at m said n)
        (λ w.
        let free : m.count + suc (count_below n (waits_at m said)) ≤ capacity m = rw w at room in
        let y = settle n (omega arith) (omega arith) in
        ends_now n (omega arith) y.0 y.1 w (omega arith))
        (λ w.
        let y = settle n (omega arith) (rw w at room) in
        (y.0, stays n (omega arith) y.0 y.1 (as_said n (omega arith) w) w))

    pub facts_can_end : (x : Memory) × (Facts x × EndsAs m said x)
    facts_can_end =
        let y = settle seat_count (omega arith) c.cells_enough in
        let k = y.1 in
        let n = k.count in (
          y.0,
          (
            k.facts,
            record {
              is_desk_holds = facts_desk y.0 k.facts;
              bits = k.bits;
              keys = k.keys;
              no_fewer = omega (arith, n);
              size = k.size;
              marks = k.marks;
              cells = k.cells;
              as_said = k.settled;
            },
          ),
        )

pub can_end : CanEndDoes
can_end m said d c = let y = facts_can_end m said (desk_facts m d) c in (y.0, y.1.1)
