-- Page 02, 'Ask 4': a path that is handed over segment by segment gets the page's answer for the whole path. Assumes nothing.
use mathlib.Core.Path.{◌≡◌, refl, sym, ap, ◌∙◌, subst}
use mathlib.Core.List.{List}
use mathlib.Core.Bool.{true, false, not, ◌||◌, or-true}
use Prim.Native.Nat.{ℕ, zero, suc, ◌+◌, ◌-◌, ◌^◌, ◌≤◌, ◌<◌}
use native.Mathlib.Nat.{add-zero}
use native.Mathlib.Numerals.{add-one}
use native.Mathlib.Decide.{ℕ_discrete, dec_le}
use native.Mathlib.Omega.{arith}
use borrow.Author.Tests.{eq-eqb}
use lib.Dec.{eqb}
use lib.ListN.{length, set, get_or, length-set}
use lib.Seq.{get_or-set_same, get_or-set_other}
use Rattle.sheet_record.specs.Kinds.{within}
use Rattle.sheet_ranges.proofs.Ranges.{range_within}
use Rattle.sheet_rules.specs.Sheets.{Sheet}
use Rattle.sheet_rules.specs.Whole.{Outcome}
use Rattle.sheet_rules.specs.Whole.Outcome.{Read, Not}
use Rattle.pnet_rules.specs.Segment.{Segment, segment_of, count, bound}
use Rattle.pnet_rules.specs.Limits.{Declared}
use Rattle.pnet_rules.proofs.Holds.{silent_by_bound, count_above_masters, count_of_zero}
use Rattle.pnet_sender.specs.Sender.{sender_of}
use Rattle.pnet_bounds.proofs.Bounded.{bounded_declared}
use Rattle.units.specs.Units.{bp}
use Rattle.units.specs.declared.BitPeriods.{BitPeriods}
use Rattle.pnet_crossing.specs.Cost.{crossing_by, kept, no_bound}
use Rattle.pnet_crossing.proofs.Same.{crossing_same}
use Rattle.pnet_path.specs.Path.{Path, gateways, sheet_at, bound_at, bound_from, sender_at, forwarding_at, absent_in, absent_from, absent_at, crossed_from, crossed}
use Rattle.pnet_path.specs.Refusals.{Each, FirstBad, Taken, Untaken}
use Rattle.pnet_path.specs.Ways.{one_more_of, further, stopped, over_by, answer_of, way_over, HandedOver}
use Rattle.pnet_path.specs.Ways.HandedOver.{whole, up_to_refused}
use Rattle.pnet_path.specs.declared.Way.{Way}
use Rattle.pnet_path.proofs.Laws.{over_stays, over_goes, answer_of_refused, answer_of_others}
use Rattle.pnet_path.proofs.Refusals.{behind, refused_own, Looked, looked}
use Rattle.pnet_path.proofs.Refusals.Looked.{all, up_to}
use Rattle.std.specs.declared.result.Result.TheVariants.{Err}
use Rattle.common.specs.Checks.{refusal}
use Rattle.std.specs.declared.option.Option.TheVariants.{Some, None}
use Rattle.std.specs.Prelude.{is_some}

-- ---- Absent is who has no bound

-- in a declared segment
absent_is : (S : Segment) → Declared S → (k : ℕ) → eqb (bound S k) 0 ≡ absent_in S k
unfolding absent_in
absent_is S d k = silent_by_bound S d.masters_from k ∙ by (dec_le 1 k) (dec_le k S.masters)
  where
    -- a number that is no master's has no streams
    none : count S k ≡ 0 → eqb (count S k) 0 ≡ (not (within 1 k S.masters) || eqb (count S k) 0)
    none e = simp (eq-eqb (count S k) 0 e, or-true)

    by : Dec (1 ≤ k) → Dec (k ≤ S.masters) → eqb (count S k) 0 ≡ (not (within 1 k S.masters) || eqb (count S k) 0)
    by (yes lo) (yes hi) = rw (range_within 1 k S.masters (record { least = lo; most = hi }))
    by (no lo) h = none (count_of_zero S d k (omega (arith, lo)))
    by (yes lo) (no hi) = none (count_above_masters S d k (omega (arith, hi)))

-- where the sheet is refused, both say that there is none
silent_is : (P : Path) (i : ℕ) → eqb (bound_at P i) 0 ≡ absent_at P i
unfolding bound_at absent_at sheet_at
silent_is P i = by (sheet_at P i) refl
  where
    by : (o : Outcome) → sheet_at P i ≡ o → eqb (bound_from o (P.hop i).sender) 0 ≡ absent_from o (P.hop i).sender
    by (Read H) e = absent_is (segment_of H) (bounded_declared (P.hop i).sheet 800 H e) (P.hop i).sender
    by (Not n p) e = refl

-- ---- What is kept behind n segments whose sheets are all accepted

-- a run with places 0..m has the figure f at its places from 1 up to the next one to be stored
pub record Holds {A : Type 0} (none : A) (f : ℕ → A) (run : List A) (m next : ℕ) : Type 0 where
  pub long : length run ≡ m + 1
  pub places : (i : ℕ) → 1 ≤ i → i < next → i ≤ m → get_or run i none ≡ f i

stored : {A : Type 0} {none : A} {f : ℕ → A} {run : List A} {m next : ℕ} → Holds none f run m next → (x : A) → x ≡ f next → Holds none f (set run next x) m (suc next)
stored {A} {none} {f} {run} {m} {next} h x e =
    record { long = length-set run next x ∙ h.long; places = λ i lo hi small. at i lo hi small (ℕ_discrete i next) }
  where
    at : (i : ℕ) → 1 ≤ i → i < suc next → i ≤ m → Dec (i ≡ next) → get_or (set run next x) i none ≡ f i
    at i lo hi small (yes q) = rw q (get_or-set_same run next x none (omega (arith, q, h.long)) ∙ e)
    at i lo hi small (no q) = get_or-set_other run next i x none q ∙ h.places i lo (omega (arith, q)) small

pub record Kept (P : Path) (n : ℕ) (w : Way) : Type 0 where
  pub segments : w.segments ≡ n
  pub none_refused : w.refused ≡ None
  pub masters : Holds 0 (sender_at P) w.masters 11 (suc n)
  pub bounds : Holds (bp 0) (λ i. bp (bound_at P i)) w.bounds 11 (suc n)
  pub times : Holds (bp 0) (λ i. bp (forwarding_at P i)) w.times 10 n

-- ---- What is kept up to segment i, whose sheet is refused

pub record Ended (i n p : ℕ) (w : Way) : Type 0 where
  pub segments : w.segments ≡ i
  pub refused : w.refused ≡ Some (refusal n p)

module _ (P : Path) where
  -- what is kept behind n segments
  abbrev way : ℕ → Way
  way n = way_over P n

  kept_none : Kept P 0 (way 0)
  unfolding way_over
  kept_none =
      record {
        segments = refl;
        none_refused = refl;
        masters = record { long = refl; places = λ i lo hi small. absurd (omega arith) };
        bounds = record { long = refl; places = λ i lo hi small. absurd (omega arith) };
        times = record { long = refl; places = λ i lo hi small. absurd (omega arith) };
      }

  -- one segment more
  further_kept : {n : ℕ} {w : Way} → Kept P n w → suc n < 2 ^ 64 → (R : ℕ) → R ≡ bound_at P (suc n)
      → Kept P (suc n) (further w (P.hop (suc n)).forwarding (P.hop (suc n)).sender R)
  unfolding further one_more_of forwarding_at sender_at
  further_kept {n} {w} h few R R-is =
      let hop = P.hop (suc n) in
      let next : suc n ≡ w.segments + 1 = omega (arith, h.segments) in
      let time : bp hop.forwarding ≡ bp (P.hop (n + 1)).forwarding = ap (λ (i : ℕ). bp (P.hop i).forwarding) (sym (add-one n)) in
      record {
        segments = omega (arith, h.segments);
        none_refused = h.none_refused;
        masters = subst (λ (i : ℕ). Holds 0 (sender_at P) (set w.masters i hop.sender) 11 (suc (suc n))) next (stored h.masters hop.sender refl);
        bounds = subst (λ (i : ℕ). Holds (bp 0) (λ j. bp (bound_at P j)) (set w.bounds i (bp R)) 11 (suc (suc n))) next (stored h.bounds (bp R) (ap bp R-is));
        times = subst (λ (i : ℕ). Holds (bp 0) (λ j. bp (forwarding_at P j)) (set w.times i (bp hop.forwarding)) 10 (suc n)) (sym h.segments) (stored h.times (bp hop.forwarding) time);
      }

  -- the next segment, from what its sheet is
  way_more : (n : ℕ) → is_some (way n).refused ≡ false
      → way (suc n) ≡ over_by (way n) (P.hop (suc n)).forwarding (P.hop (suc n)).sender (sender_of (sheet_at P (suc n)) (P.hop (suc n)).sender)
  unfolding way_over sheet_at
  way_more n e = let h = P.hop (suc n) in over_goes (way n) h.forwarding h.sheet h.sender e

  kept_more : (n : ℕ) (H : Sheet) → sheet_at P (suc n) ≡ Read H → suc n < 2 ^ 64 → Kept P n (way n) → Kept P (suc n) (way (suc n))
  unfolding bound_at
  kept_more n H is few k =
      let h = P.hop (suc n) in
      let R = bound (segment_of H) h.sender in
      let e : way (suc n) ≡ further (way n) h.forwarding h.sender R = rw is at (way_more n (ap is_some k.none_refused)) in
      let b : R ≡ bound_at P (suc n) = rw is in
      rw e (further_kept k few R b)

  pub kept_all : (n : ℕ) → n < 2 ^ 64 → Each (Taken P) n → Kept P n (way n)
  kept_all zero few t = kept_none
  kept_all (suc n) few t =
      let last = t (suc n) (omega arith) (omega arith) in
      kept_more n last.sheet last.reads few (kept_all n (omega arith) (λ j lo hi. t j lo (omega arith)))

  -- behind a refused sheet nothing changes
  way_still : (n : ℕ) → is_some (way n).refused ≡ true → way (suc n) ≡ way n
  unfolding way_over
  way_still n e = let h = P.hop (suc n) in over_stays (way n) h.forwarding h.sheet h.sender e

  way_stays : (k n : ℕ) → n ≤ k → is_some (way n).refused ≡ true → way k ≡ way n
  way_stays zero n le e = let z : n ≡ 0 = omega arith in rw z
  way_stays (suc k) n le e = last (ℕ_discrete n (suc k)) (way_stays k n)
    where
      last : Dec (n ≡ suc k) → (n ≤ k → is_some (way n).refused ≡ true → way k ≡ way n) → way (suc k) ≡ way n
      last (yes q) ih = rw q
      last (no q) ih =
          let same = ih (omega (arith, q)) e in
          way_still k (ap (λ (w : Way). is_some w.refused) same ∙ e) ∙ same

  -- so it is all the same whether the segments behind it are handed over
  pub handed_over_alike : {n : ℕ} → HandedOver P n → way n ≡ way P.segments
  handed_over_alike whole = refl
  handed_over_alike {n} (up_to_refused l e) = sym (way_stays P.segments n l e)

  module _ (few : P.segments < 2 ^ 64) where
    pub ended : {i n p : ℕ} → FirstBad (Taken P) (Untaken n p P) P.segments i → Ended i n p (way P.segments)
    unfolding stopped one_more_of
    ended {i = zero} b = absurd (omega (arith, b.from))
    ended {i = suc i} {n = n} {p = p} b =
        let k = kept_all i (omega (arith, b.to)) (λ j lo hi. b.before j lo (omega arith)) in
        let stop : way (suc i) ≡ stopped (way i) (refusal n p) = rw b.itself at (way_more i (ap is_some k.none_refused)) in
        let last = way_stays P.segments (suc i) b.to (ap (λ (w : Way). is_some w.refused) stop) ∙ stop in
        rw last (record { segments = omega (arith, k.segments, b.to); refused = refl })

-- ---- The answers

-- no sheet is refused
answer_kept : (P : Path) (w : Way) → Kept P P.segments w
    → answer_of w P.deadline ≡ crossing_by (bound_at P) (forwarding_at P) (absent_at P) (gateways P) P.deadline
unfolding no_bound
answer_kept P w k =
    let D = P.deadline in
    let g : gateways P ≡ w.segments - 1 = omega (arith, k.segments) in
    let own = crossing_by (kept w.bounds) (kept w.times) (no_bound w.bounds) (gateways P) D in
    let count : BitPeriods → ℕ = λ b. b.0 in
    sym (answer_of_others w D k.none_refused (gateways P) g own refl)
    ∙ crossing_same _ _ _ _ _ _ (gateways P) D
    (λ from to. record {
      bounds = λ i lo hi. ap count (k.bounds.places i lo (omega arith) (omega arith));
      times = λ i lo hi. ap count (k.times.places i lo (omega arith) (omega arith));
      senders = λ i lo hi. ap (λ (b : BitPeriods). eqb b.0 0) (k.bounds.places i lo (omega arith) (omega arith)) ∙ silent_is P i;
    })

-- the sheet of segment i is refused
answer_ended : {i n p : ℕ} (w : Way) (D : ℕ) → Ended i n p w → answer_of w D ≡ Err (refusal n p)
answer_ended w D e = sym (answer_of_refused w D e.refused)

pub path_handed_over : (P : Path) → P.segments < 2 ^ 64 → answer_of (way_over P P.segments) P.deadline ≡ crossed P
unfolding crossed_from
path_handed_over P few = split (looked P P.segments)
  where
    split : Looked P P.segments → answer_of (way_over P P.segments) P.deadline ≡ crossed P
    split (all t) = answer_kept P _ (kept_all P P.segments few t) ∙ sym (behind P P.segments 0 (add-zero P.segments) t)
    split (up_to b) = answer_ended _ P.deadline (ended P few b) ∙ sym (refused_own P b)
