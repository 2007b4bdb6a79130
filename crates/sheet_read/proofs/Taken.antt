-- From the reader's answer to what was read, as the planners take it, and what they meet on their way from stream to stream.
-- Assumes nothing.
use mathlib.Core.Path.{◌≡◌, refl, sym, ap, ◌∙◌}
use mathlib.Core.Bool.{true}
use mathlib.Core.List.{List}
use Prim.Native.Nat.{ℕ, suc, ◌+◌, ◌<◌}
use native.Mathlib.Nat.{add-zero}
use native.Mathlib.Omega.{arith}
use lib.ListN.{length, get_or, take}
use Rattle.sheet_record.specs.declared.Met.{Met}
use Rattle.sheet_record.specs.declared.Record.{Record}
use Rattle.sheet_record.specs.Kinds.{pnet, bus_of, is_stream_of, nothing, met_at, stream_met}
use Rattle.sheet_record.proofs.Records.{stream_same}
use Rattle.sheet_rules.specs.Sheets.{edition_of}
use Rattle.sheet_rules.specs.Whole.{Outcome, place_of, first_stream, reading}
use Rattle.sheet_read.specs.Told.{told, accepted}
use Rattle.sheet_rules.specs.Ready.{sheet_in, stream_place, edition_at, Ready}
use Rattle.sheet_rules.specs.Whole.Outcome.{Read, Not}
use Rattle.sheet_rules.specs.Lengths.{enough}
use Rattle.sheet_rules.proofs.Lengths.{accepted_prefix, reading_prefix}
use Rattle.sheet_rules.proofs.Known.{Known, reading_read}
use Rattle.std.specs.declared.result.Result.TheVariants.{Ok, Err}
use Rattle.common.specs.Checks.{refusal}
use Rattle.common.proofs.Answered.{same_refusal}
use Rattle.sheet_read.specs.Told.{accepted}
use Rattle.sheet_read.specs.declared.Accepted.{Accepted}

-- the answer `Accepted head n first`: what was read has this first record and n streams, the first of them at this place
pub record Taken (s : List ℕ) (head : Record) (n first : ℕ) : Type 0 where
  pub reads : reading s ≡ Read (sheet_in s)
  pub begins : head ≡ (sheet_in s).head
  pub number : length (sheet_in s).streams ≡ n
  pub starts : first ≡ stream_place s 0

pub taken : (s : List ℕ) (h : Record) (n f : ℕ) → told s (reading s) ≡ Ok (accepted h n f) → Taken s h n f
unfolding sheet_in stream_place
taken s h n f e = split (reading s) refl e
  where
    split : (o : Outcome) → reading s ≡ o → told s o ≡ Ok (accepted h n f) → Taken s h n f
    split (Read S) q a =
        let r : accepted h n f ≡ accepted S.head (length S.streams) (place_of s (first_stream S)) = cc in
        let eh = ap (λ (x : Accepted). x.head) r in
        let en = sym (ap (λ (x : Accepted). x.streams) r) in
        let ef = ap (λ (x : Accepted). x.first) r in
        record {
          reads = rw q;
          begins = rw q eh;
          number = rw q en;
          starts = rw q (ef ∙ ap (place_of s) (sym (add-zero (first_stream S))));
        }
    split (Not no' p) q a = let z : ◌≡◌ {A = ℕ} 0 1 = cc in absurd (omega arith)

pub not_taken : (s : List ℕ) (x p : ℕ) → told s (reading s) ≡ Err (refusal x p) → reading s ≡ Not x p
not_taken s x p e = split (reading s) refl e
  where
    split : (o : Outcome) → reading s ≡ o → told s o ≡ Err (refusal x p) → reading s ≡ Not x p
    split (Read S) q a = let z : ◌≡◌ {A = ℕ} 0 1 = cc in absurd (omega arith)
    split (Not y r) q a = let e = same_refusal a in rw (e.0, e.1) at q

-- ---- Stream after stream

-- the sheet of the bus that a planner is for
pub taken_ready : {s : List ℕ} {h : Record} {n f bus : ℕ} → Taken s h n f → bus_of h.kind ≡ bus → Ready s bus f n
taken_ready t k =
    record { reads = t.reads; on_bus = ap (λ (r : Record). bus_of r.kind) (sym t.begins) ∙ k; number = t.number; starts = t.starts }

module _ {s : List ℕ} {bus first n : ℕ} (ready : Ready s bus first n) where
  pub ready_known : Known s (sheet_in s)
  ready_known = reading_read s (sheet_in s) ready.reads

  -- what `edition` answers is the edition of the sheet, where it is one of P-NET
  pub ready_edition : bus ≡ pnet → edition_at s ≡ edition_of (sheet_in s)
  ready_edition e = ready_known.edition (ready.on_bus ∙ e)

  -- what is met at the place of stream i, counted from 0, is that stream, and behind it stands the next
  pub record StreamMet (i : ℕ) (m : Met) : Type 0 where
    pub is : m.found ≡ get_or (sheet_in s).streams i nothing
    pub next : m.next ≡ stream_place s (i + 1)

  pub stream_met_law : (i at : ℕ) (m : Met) → i < n → at ≡ stream_place s i → m ≡ stream_met s at bus → StreamMet i m
  unfolding stream_place
  stream_met_law i at m l e q =
      let S = sheet_in s in
      let l' : i < length S.streams = omega (arith, ready.number) in
      let p = place_of s (first_stream S + i) in
      let its : is_stream_of bus (get_or s p 0) ≡ true = rw ready.on_bus at (rw (← ready_known.byte i l') at (ready_known.kinds i l')) in
      let q' : m ≡ met_at s p = q ∙ (ap (λ (x : ℕ). stream_met s x bus) e ∙ stream_same s p bus its) in
      let z : suc (first_stream S + i) ≡ first_stream S + (i + 1) = omega arith in
      record {
        is = ap (λ (x : Met). x.found) q' ∙ ready_known.met i l';
        next = ap (λ (x : Met). x.next) q' ∙ (ready_known.next i l' ∙ ap (place_of s) z);
      }

-- ---- The first 12,820 bytes are enough

-- so the reader answers the same on them
pub told_prefix : (s : List ℕ) → told s (reading s) ≡ told (take enough s) (reading (take enough s))
told_prefix s = by (reading s) refl
  where
    by : (o : Outcome) → reading s ≡ o → told s (reading s) ≡ told (take enough s) (reading (take enough s))
    by (Read S) e = ap (λ (t : List ℕ). told t (reading t)) (sym (accepted_prefix s S e))
    by (Not n p) e = ap (told s) e ∙ ap (told (take enough s)) (sym e ∙ reading_prefix s)
