-- A capture: its frames given to the desk one after the other, and the counts. Assumes nothing.
use Prim.Native.Nat.{ℕ, suc, ◌+◌, ◌-◌, ◌<◌, ◌≤◌}
use mathlib.Core.List.{List, [], ◌∷◌}
use mathlib.Core.Bool.{Bool, true, false, cond}
use mathlib.Core.Path.{◌≡◌, refl, ap, ◌∙◌}
use native.Mathlib.Omega.{arith}
use lib.ListN.{length, get_or, take, drop}
use lib.Seq.{slice}
use lib.Dec.{eqb}
use borrow.Author.Tests.{eq-eqb, ne_eqb}
use Rattle.digits.specs.Told.{Told, gives}
use Rattle.frames.specs.Kind.{read}
use Rattle.frames.specs.Dynamic.{dynamic}
use Rattle.finder.specs.Pieces.{Piece, whole, cut, pieces, pieces_from}
use Rattle.finder.proofs.Demands.{frames_are_leads}
use Rattle.finder.proofs.Step.{part_is}
use Rattle.desk.specs.declared.capture.Fate.{Fate}
use Rattle.desk.specs.declared.capture.Fate.TheVariants.{Opened, Collected, Dynamic, Refused}
use Rattle.desk.specs.declared.capture.Counts.{Counts}
use Rattle.std.specs.Prelude.{Ok, Err}
use Rattle.desk.specs.declared.capture.CaptureRefusal.TheVariants.{Desk}
use Rattle.desk.specs.Memory.{Memory}
use Rattle.desk.specs.Desk.{is_desk}
use Rattle.desk.specs.Calls.{Outcome, opens, replies, Did}
use Rattle.desk.specs.Capture.{fate_by, dynamic_fate, Step, open_lead, reply_lead, meets, meets_piece, fates, after_all, is_opened, is_collected, is_dynamic, is_refused, how_many, counts_of, TookCapture, CountsAddUp}
use Rattle.desk.specs.inside.Counting.{Meets, MeetsBy, one_more}
use Rattle.digits.proofs.Tests.{by-test}
use Rattle.desk.proofs.DeskLaws.{stays_desk}

-- ---- one frame, by its lead byte

module _ (m : Memory) (f : List ℕ) (r : Fate) (m' : Memory) where
  pub meets_request : get_or f 0 0 ≡ open_lead → MeetsBy Opened (opens m f) r m' → Meets (meets m f) r m'
  unfolding meets
  meets_request l w = rw (eq-eqb (get_or f 0 0) open_lead l) w

  pub meets_reply : (get_or f 0 0 ≡ open_lead → ⊥) → get_or f 0 0 ≡ reply_lead → MeetsBy Collected (replies m f) r m' → Meets (meets m f) r m'
  unfolding meets
  meets_reply n l w = rw (ne_eqb (get_or f 0 0) open_lead n, eq-eqb (get_or f 0 0) reply_lead l) w

  pub meets_other : (get_or f 0 0 ≡ open_lead → ⊥) → (get_or f 0 0 ≡ reply_lead → ⊥) → r ≡ dynamic_fate (read dynamic f) → m' ≡ m → Meets (meets m f) r m'
  unfolding meets
  meets_other n k e d = rw (ne_eqb (get_or f 0 0) open_lead n, ne_eqb (get_or f 0 0) reply_lead k) (record { fate = e; after = d })

  -- by what the call would have answered
  pub met_by : (o : Outcome) (good : Fate) (told : Told ℕ) → r ≡ fate_by good told → Did told m' o → MeetsBy good o r m'
  met_by o good told e d = record { fate = e ∙ ap (fate_by good) d.answer; after = d.memory }

-- what holds of each of the three steps holds of the one that the lead byte chooses
pub by_lead : (P : Step → Type 0) (m : Memory) (f : List ℕ)
    → P (record { fate = fate_by Opened (opens m f).answer; after = (opens m f).after })
    → P (record { fate = fate_by Collected (replies m f).answer; after = (replies m f).after })
    → P (record { fate = dynamic_fate (read dynamic f); after = m })
    → P (meets m f)
unfolding meets
by_lead P m f a b c =
    by-test (eqb (get_or f 0 0) open_lead)
    (λ e. rw e a)
    (λ e. by-test (eqb (get_or f 0 0) reply_lead) (λ g. rw (e, g) b) (λ g. rw (e, g) c))

-- a desk stays a desk
pub meets_desk : (m : Memory) (f : List ℕ) → is_desk m ≡ true → is_desk (meets m f).after ≡ true
meets_desk m f d = by_lead (λ (x : Step). is_desk x.after ≡ true) m f (stays_desk.opening m f d) (stays_desk.reply m f d) d

-- ---- the loop

-- a desk, what is left to do on it, and the counts so far
pub record Going (m₀ : Memory) (s : List ℕ) (at : ℕ) (m : Memory) (c : Counts) : Type 0 where
  pub desk : is_desk m ≡ true
  pub rest : after_all m (pieces_from s at) ≡ after_all m₀ (pieces s)
  pub opened : c.opened + how_many is_opened (fates m (pieces_from s at)) ≡ how_many is_opened (fates m₀ (pieces s))
  pub collected : c.collected + how_many is_collected (fates m (pieces_from s at)) ≡ how_many is_collected (fates m₀ (pieces s))
  pub dynamic : c.dynamic + how_many is_dynamic (fates m (pieces_from s at)) ≡ how_many is_dynamic (fates m₀ (pieces s))
  pub refused : c.refused + how_many is_refused (fates m (pieces_from s at)) ≡ how_many is_refused (fates m₀ (pieces s))
  pub few : c.opened + c.collected + c.dynamic + c.refused ≤ at

pub begins : (m : Memory) (s : List ℕ) (c : Counts) → is_desk m ≡ true → c.opened ≡ 0 × (c.collected ≡ 0 × (c.dynamic ≡ 0 × c.refused ≡ 0)) → Going m s 0 m c
begins m s c d z =
    let o = z.0 in
    let k = z.1.0 in
    let y = z.1.1.0 in
    let r = z.1.1.1 in
    record { desk = d; rest = refl; opened = omega (arith, o); collected = omega (arith, k); dynamic = omega (arith, y); refused = omega (arith, r); few = omega (arith, o, k, y, r) }

counts_four : (a b : Counts) → a.opened ≡ b.opened → a.collected ≡ b.collected → a.dynamic ≡ b.dynamic → a.refused ≡ b.refused → a ≡ b
counts_four a b p q r s = λ i. record { opened = p i; collected = q i; dynamic = r i; refused = s i }

-- a fate is counted once, in its own count
record More (c d : Counts) (fate : Fate) : Type 0 where
  opened : d.opened ≡ c.opened + cond (is_opened fate) 1 0
  collected : d.collected ≡ c.collected + cond (is_collected fate) 1 0
  dynamic : d.dynamic ≡ c.dynamic + cond (is_dynamic fate) 1 0
  refused : d.refused ≡ c.refused + cond (is_refused fate) 1 0
  one : d.opened + d.collected + d.dynamic + d.refused ≡ c.opened + c.collected + c.dynamic + c.refused + 1

more_than : (c : Counts) (fate : Fate) → More c (one_more c fate) fate
more_than c Opened = record { opened = omega arith; collected = omega arith; dynamic = omega arith; refused = omega arith; one = omega arith }
more_than c Collected = record { opened = omega arith; collected = omega arith; dynamic = omega arith; refused = omega arith; one = omega arith }
more_than c Dynamic = record { opened = omega arith; collected = omega arith; dynamic = omega arith; refused = omega arith; one = omega arith }
more_than c Refused = record { opened = omega arith; collected = omega arith; dynamic = omega arith; refused = omega arith; one = omega arith }

module _ (m₀ : Memory) (s : List ℕ) (at : ℕ) (m : Memory) (c : Counts) (g : Going m₀ s at m c) where
  module _ (none : pieces_from s at ≡ []) where
    ends_counts : c ≡ counts_of (fates m₀ (pieces s))
    unfolding fates how_many
    ends_counts =
        let a = rw none at g.opened in
        let b = rw none at g.collected in
        let d = rw none at g.dynamic in
        let e = rw none at g.refused in
        counts_four c (counts_of (fates m₀ (pieces s))) (omega arith) (omega arith) (omega arith) (omega arith)

    ends_memory : m ≡ after_all m₀ (pieces s)
    unfolding after_all
    ends_memory = rw none at g.rest

  -- one more frame
  module _ (p : Piece) (next : ℕ) (is : pieces_from s at ≡ p ∷ pieces_from s next) (less : at < next) where
    fate_more : (q : Fate → Bool) → how_many q (fates m (pieces_from s at)) ≡ cond (q (meets_piece m p).fate) (suc (how_many q (fates (meets_piece m p).after (pieces_from s next)))) (how_many q (fates (meets_piece m p).after (pieces_from s next)))
    unfolding fates how_many
    fate_more q = rw is

    desk_more : (p : Piece) → is_desk (meets_piece m p).after ≡ true
    desk_more (whole start bytes) = meets_desk m bytes g.desk
    desk_more (cut start bytes) = g.desk

    counted : (q : Fate → Bool) (n k total : ℕ) → n + how_many q (fates m (pieces_from s at)) ≡ total → k ≡ n + cond (q (meets_piece m p).fate) 1 0 → k + how_many q (fates (meets_piece m p).after (pieces_from s next)) ≡ total
    counted q n k total h e =
        let f = fate_more q in
        by-test (q (meets_piece m p).fate)
        (λ b. let x = rw b at e in let y = rw b at f in omega (arith, h, x, y))
        (λ b. let x = rw b at e in let y = rw b at f in omega (arith, h, x, y))

    pub goes : Going m₀ s next (meets_piece m p).after (one_more c (meets_piece m p).fate)
    unfolding after_all
    goes =
        let fate = (meets_piece m p).fate in
        let o = more_than c fate in
        let v = g.few in
        record {
          desk = desk_more p;
          rest = rw is at g.rest;
          opened = counted is_opened _ _ _ g.opened o.opened;
          collected = counted is_collected _ _ _ g.collected o.collected;
          dynamic = counted is_dynamic _ _ _ g.dynamic o.dynamic;
          refused = counted is_refused _ _ _ g.refused o.refused;
          few = omega (arith, v, o.one);
        }

-- ---- the counts add up

fates_length : (m : Memory) (ps : List Piece) → length (fates m ps) ≡ length ps
unfolding fates
fates_length m [] = refl
fates_length m (p ∷ ps) = ap suc (fates_length (meets_piece m p).after ps)

four : (l : List Fate) → how_many is_opened l + how_many is_collected l + how_many is_dynamic l + how_many is_refused l ≡ length l
unfolding how_many
four [] = refl
four (Opened ∷ l) = let h = four l in omega arith
four (Collected ∷ l) = let h = four l in omega arith
four (Dynamic ∷ l) = let h = four l in omega arith
four (Refused ∷ l) = let h = four l in omega arith

pub counts_add_up : CountsAddUp
counts_add_up m s = four (fates m (pieces s)) ∙ fates_length m (pieces s) ∙ frames_are_leads s

-- ---- the call

pub took_none : (m : Memory) (s : List ℕ) → is_desk m ≡ false → TookCapture m s (Err Desk) m
took_none m s d = record { told = rw d; memory = rw d }

pub took_all : (m₀ : Memory) (s : List ℕ) (at : ℕ) (m : Memory) (c : Counts) → is_desk m₀ ≡ true → Going m₀ s at m c → pieces_from s at ≡ [] → TookCapture m₀ s (Ok c) m
took_all m₀ s at m c d g none =
    record { told = rw d (ap gives (ends_counts m₀ s at m c g none)); memory = rw d (ends_memory m₀ s at m c g none) }

-- a turn of the loop
module _ (m₀ : Memory) (s : List ℕ) (at : ℕ) (m : Memory) (c : Counts) (g : Going m₀ s at m c) (a e : ℕ) (c' : Counts) (less : at < e) where
  pub goes_cut : pieces_from s at ≡ cut a (slice a e s) ∷ pieces_from s e → c' ≡ one_more c Refused → Going m₀ s e m c'
  goes_cut is q = rw q (goes m₀ s at m c g (cut a (slice a e s)) e is less)

  pub goes_whole : pieces_from s at ≡ whole a (slice a e s) ∷ pieces_from s e → a < e → (r : Fate) (m' : Memory) → Meets (meets m (take (e - a) (drop a s))) r m'
      → c' ≡ one_more c r → (next : ℕ) → next ≡ e → Going m₀ s next m' c'
  goes_whole is l r m' w q next k =
      rw (k, q, w.fate, w.after, ← part_is s a e l) (goes m₀ s at m c g (whole a (slice a e s)) e is less)
