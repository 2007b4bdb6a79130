-- Page 02, Ask 8: the records that a ring of kind 3 is rewritten as make a right sheet, which says the same ring. Assumes nothing.
use Prim.Native.Nat.{ℕ, zero, suc, ◌+◌, ◌-◌, ◌≤◌, ◌<◌}
use mathlib.Core.Path.{◌≡◌, refl, sym, ap, ◌∙◌, subst}
use mathlib.Core.List.{List, [], ◌∷◌, ◌++◌, append-nil}
use mathlib.Core.Bool.{true, false}
use native.Mathlib.Nat.{not-suc-le-zero}
use native.Mathlib.Omega.{arith}
use native.Mathlib.Decide.{dec_lt}
use lib.ListN.{length, get_or, take, length-append, get_or-append}
use lib.Seq.{take-append-le, take-append-add, get_or-append-add}
use Rattle.sheet_record.specs.declared.Record.{Record}
use Rattle.sheet_record.specs.Kinds.{kinds, line_of, fields_of, bus_of, part_of, known, is_first, is_setting, is_stream, is_stream_of, in_range, nothing}
use Rattle.sheet_ranges.specs.Ranges.{RingRanges}
use Rattle.sheet_ranges.proofs.Ranges.{ring_stream_ranges}
use Rattle.sheet_ranges.proofs.InPage.{ring_stream_in_range, open_ring_in_range, message_in_range}
use Rattle.sheet_messages.specs.Messages.{message_by}
use Rattle.sheet_rules.specs.Sheets.{Sheet, head_of, having, sheet_of, masters_of, message_of, given, fits, lacking, repeated, over_limit, most_in_all, has_masters, count_of, met_before}
use Rattle.sheet_rules.specs.Records.{Follows, Right}
use Rattle.sheet_rules.proofs.Walk.{having_append}
use Rattle.sheet_rules.proofs.Order.{fits_first, message_fits, stream_fits, message_of_ring, message_of_master}
use Rattle.sheet_rewrite.specs.Meaning.{SameRing}
use Rattle.sheet_rewrite.specs.Rewriting.{open_ring, message_record, message_records, renewed}
use Rattle.sheet_rewrite.proofs.Messages.{length_messages, message_at, messages_front, messages_settings, messages_no_streams, none_past, none_lacks, its_message}

-- ---- What is known of a ring of kind 3 that reads without refusal

-- every one of these records is a stream of a ring
abbrev pub RingStreams : List Record → Type 0
RingStreams rs = (i : ℕ) → i < length rs → (get_or rs i nothing).kind ≡ 4

pub record OldRing (S : Sheet) : Type 0 where
  pub is_old : S.head.kind ≡ 3
  pub ranges : RingRanges S.head
  pub bare : S.settings ≡ []
  pub streams : RingStreams S.streams
  pub each : (i : ℕ) → i < length S.streams → Follows (S.head ∷ take i S.streams) (get_or S.streams i nothing)
  pub some : 1 ≤ length S.streams

-- ---- Streams of a ring

stream_kind : is_stream 4 ≡ true
unfolding is_stream part_of line_of kinds
stream_kind = refl

no_setting : is_setting 4 ≡ false
unfolding is_setting part_of line_of kinds
no_setting = refl

pub all_streams : (rs : List Record) → RingStreams rs → having is_stream rs ≡ rs
unfolding having
all_streams [] each = refl
all_streams (r ∷ rs) each = rw (each 0 (omega arith), stream_kind, all_streams rs (λ i l. each (suc i) (omega arith))) refl

pub no_settings : (rs : List Record) → RingStreams rs → having is_setting rs ≡ []
unfolding having
no_settings [] each = refl
no_settings (r ∷ rs) each = rw (each 0 (omega arith), no_setting, no_settings rs (λ i l. each (suc i) (omega arith))) refl

pub front_streams : (rs : List Record) (n : ℕ) → RingStreams rs → RingStreams (take n rs)
front_streams rs zero each i l = absurd (not-suc-le-zero l)
front_streams [] (suc n) each i l = absurd (not-suc-le-zero l)
front_streams (r ∷ rs) (suc n) each zero l = each 0 (omega arith)
front_streams (r ∷ rs) (suc n) each (suc i) l = front_streams rs n (λ j k. each (suc j) (omega arith)) i (omega arith)

-- ---- A record behind some records, by the sheet that these say

pub record FollowsIn (T : Sheet) (r : Record) : Type 0 where
  pub is_known : known r.kind ≡ true
  pub is_right : fits T r.kind ≡ true
  pub is_ranged : in_range (given T r.a) r ≡ true
  pub first_of_master : repeated T r ≡ false
  pub none_missing : is_stream r.kind ≡ true → lacking T ≡ false
  pub in_limits : over_limit T.streams r ≡ false
  pub is_new : met_before T.streams r ≡ false

pub in_follows : {before : List Record} {T : Sheet} {r : Record} → sheet_of before ≡ T → Follows before r → FollowsIn T r
in_follows {r = r} e f = subst (λ (x : Sheet). FollowsIn x r) e (same f)
  where
    same : {before : List Record} {q : Record} → Follows before q → FollowsIn (sheet_of before) q
    same g =
        record {
          is_known = g.is_known;
          is_right = g.is_right;
          is_ranged = g.is_ranged;
          first_of_master = g.first_of_master;
          none_missing = g.none_missing;
          in_limits = g.in_limits;
          is_new = g.is_new;
        }

pub follows_in : {before : List Record} {T : Sheet} {r : Record} → sheet_of before ≡ T → FollowsIn T r → Follows before r
follows_in {r = r} e f = same (subst (λ (x : Sheet). FollowsIn x r) (sym e) f)
  where
    same : {before : List Record} {q : Record} → FollowsIn (sheet_of before) q → Follows before q
    same g =
        record {
          is_known = g.is_known;
          is_right = g.is_right;
          is_ranged = g.is_ranged;
          first_of_master = g.first_of_master;
          none_missing = g.none_missing;
          in_limits = g.in_limits;
          is_new = g.is_new;
        }

module _ (S : Sheet) (old : OldRing S) where
  -- ---- What stands before each record, in the old sheet and in the new

  pub before_old : (rs : List Record) → RingStreams rs → sheet_of (S.head ∷ rs) ≡ record { head = S.head; settings = []; streams = rs }
  unfolding sheet_of head_of having is_setting is_stream part_of line_of kinds
  before_old rs each = rw (old.is_old, no_settings rs each, all_streams rs each) refl

  pub before_message : (j : ℕ) → sheet_of (open_ring S.head ∷ message_records S j) ≡ record { head = open_ring S.head; settings = message_records S j; streams = [] }
  unfolding sheet_of head_of having is_setting is_stream part_of line_of kinds
  before_message j = rw (messages_settings S j, messages_no_streams S j) refl

  pub before_new : (rs : List Record) → RingStreams rs
      → sheet_of (open_ring S.head ∷ (message_records S (masters_of S) ++ rs)) ≡ record { head = open_ring S.head; settings = message_records S (masters_of S); streams = rs }
  unfolding sheet_of head_of having is_setting is_stream part_of line_of kinds
  before_new rs each =
      rw (
        having_append is_setting (message_records S (masters_of S)) rs,
        having_append is_stream (message_records S (masters_of S)) rs,
        messages_settings S (masters_of S),
        messages_no_streams S (masters_of S),
        no_settings rs each,
        all_streams rs each,
        append-nil (message_records S (masters_of S)),
      ) refl

  -- ---- M

  -- every master's longest message is M
  pub its_M : (y : ℕ) → message_of S y ≡ S.head.c
  its_M y = message_of_ring S y (λ e. omega (arith, old.is_old))

  -- and behind all records of kind 10 it is the same
  pub same_message : (rs : List Record) (y : ℕ) → 1 ≤ y → y ≤ masters_of S
      → message_of (record { head = open_ring S.head; settings = message_records S (masters_of S); streams = rs }) y ≡ message_of S y
  unfolding message_by
  same_message rs y lo hi =
      message_of_master (record { head = open_ring S.head; settings = message_records S (masters_of S); streams = rs }) y refl
      ∙ (ap message_by (its_message S y (masters_of S) lo hi) ∙ some (message_of S y) (omega (arith, its_M y, old.ranges.message.least)))
    where
      some : (m : ℕ) → 1 ≤ m → message_by m ≡ m
      some zero l = absurd (not-suc-le-zero l)
      some (suc m) l = refl

  stream_in : (rs : List Record) (r : Record) → r.kind ≡ 4 → FollowsIn (record { head = S.head; settings = []; streams = rs }) r
      → FollowsIn (record { head = open_ring S.head; settings = message_records S (masters_of S); streams = rs }) r
  unfolding lacking repeated bus_of is_stream_of is_stream part_of line_of kinds
  stream_in rs r e f =
      let new : Sheet = record { head = open_ring S.head; settings = message_records S (masters_of S); streams = rs } in
      let old-one : Sheet = record { head = S.head; settings = []; streams = rs } in
      let w = ring_stream_ranges (given old-one r.a) r f.is_ranged e in
      let m : message_of new r.a ≡ message_of old-one r.a =
      same_message rs r.a w.master.least w.master.most ∙ (its_M r.a ∙ sym (message_of_ring old-one r.a (λ z. omega (arith, old.is_old)))) in
      record {
        is_known = f.is_known;
        is_right = stream_fits new r.kind (rw e refl);
        is_ranged =
            ring_stream_in_range (given new r.a) r e
            (record { master = w.master; cycle = record { least = w.cycle.least; most = omega (arith, w.cycle.most, m) }; deadline = w.deadline; no_d = w.no_d; no_e = w.no_e });
        first_of_master = rw e refl;
        none_missing = λ z. none_lacks S (masters_of S) (masters_of S) (omega arith);
        in_limits = f.in_limits;
        is_new = f.is_new;
      }

  -- ---- Each record may stand where it stands

  pub first_follows : Follows [] (open_ring S.head)
  unfolding known is_first is_stream fields_of part_of line_of kinds bus_of repeated over_limit most_in_all has_masters count_of met_before sheet_of
  first_follows =
      record {
        is_known = refl;
        is_right = fits_first 9;
        is_ranged =
            open_ring_in_range _ (open_ring S.head) refl
            (record { masters = old.ranges.masters; latency = old.ranges.latency; no_c = refl; no_d = refl; no_e = refl });
        first_of_master = refl;
        none_missing = λ e. cc;
        in_limits = refl;
        is_new = refl;
      }

  pub message_follows : (j : ℕ) → j < masters_of S → Follows (open_ring S.head ∷ message_records S j) (message_record S (suc j))
  unfolding known is_stream fields_of part_of line_of kinds bus_of repeated over_limit most_in_all has_masters count_of met_before
  message_follows j l =
      follows_in (before_message j)
      (record {
        is_known = refl;
        is_right = message_fits (record { head = open_ring S.head; settings = message_records S j; streams = [] });
        is_ranged =
            message_in_range _ (message_record S (suc j)) refl
            (record {
              master = record { least = omega arith; most = l };
              message = record { least = omega (arith, its_M (suc j), old.ranges.message.least); most = omega (arith, its_M (suc j), old.ranges.message.most) };
              no_c = refl;
              no_d = refl;
              no_e = refl;
            });
        first_of_master = rw (none_past S (suc j) j (omega arith)) refl;
        none_missing = λ z. cc;
        in_limits = refl;
        is_new = refl;
      })

  -- a stream stands behind the same streams, and its master has the same M
  pub stream_follows : (k : ℕ) → k < length S.streams → Follows (open_ring S.head ∷ (message_records S (masters_of S) ++ take k S.streams)) (get_or S.streams k nothing)
  stream_follows k l = follows_in (before_new (take k S.streams) fronts) (next (in_follows (before_old (take k S.streams) fronts) (old.each k l)) (old.streams k l))
    where
      fronts : RingStreams (take k S.streams)
      fronts = front_streams S.streams k old.streams

      next : FollowsIn (record { head = S.head; settings = []; streams = take k S.streams }) (get_or S.streams k nothing) → (get_or S.streams k nothing).kind ≡ 4
          → FollowsIn (record { head = open_ring S.head; settings = message_records S (masters_of S); streams = take k S.streams }) (get_or S.streams k nothing)
      next f e = stream_in (take k S.streams) (get_or S.streams k nothing) e f

  -- ---- A right sheet

  -- the first of what stands behind the ring is a record of kind 10, and behind those of all masters stand the streams
  each_follows : (i : ℕ) → i < length (renewed S) → Follows (take i (renewed S)) (get_or (renewed S) i nothing)
  unfolding renewed
  each_follows zero l = first_follows
  each_follows (suc i) l = split (dec_lt i (masters_of S))
    where
      ms : List Record
      ms = message_records S (masters_of S)

      many : length ms ≡ masters_of S
      many = length_messages S (masters_of S)

      -- a message
      front : i < masters_of S → Follows (open_ring S.head ∷ take i (ms ++ S.streams)) (get_or (ms ++ S.streams) i nothing)
      front h =
          let a : take i (ms ++ S.streams) ≡ message_records S i = take-append-le i ms S.streams (omega (arith, many)) ∙ messages_front S (masters_of S) i (omega arith) in
          let b : get_or (ms ++ S.streams) i nothing ≡ message_record S (suc i) =
          get_or-append ms S.streams nothing i (omega (arith, many)) ∙ message_at S (masters_of S) i h in
          rw (a, b) (message_follows i h)

      -- a stream
      back : (k : ℕ) → i ≡ length ms + k → k < length S.streams → Follows (open_ring S.head ∷ take i (ms ++ S.streams)) (get_or (ms ++ S.streams) i nothing)
      back k e h = rw (e, take-append-add ms S.streams k, get_or-append-add ms S.streams k nothing) (stream_follows k h)

      split : Dec (i < masters_of S) → Follows (open_ring S.head ∷ take i (ms ++ S.streams)) (get_or (ms ++ S.streams) i nothing)
      split (yes h) = front h
      split (no h) = back (i - masters_of S) (omega (arith, h, many)) (omega (arith, h, many, l, length-append ms S.streams))

  pub renewed_sheet : sheet_of (renewed S) ≡ record { head = open_ring S.head; settings = message_records S (masters_of S); streams = S.streams }
  unfolding renewed
  renewed_sheet = before_new S.streams old.streams

  pub renewed_right : Right (renewed S)
  renewed_right = record { each = each_follows; some = rw renewed_sheet old.some }

  -- ---- The same ring

  pub renewed_same : SameRing S (sheet_of (renewed S))
  unfolding bus_of line_of kinds
  renewed_same =
      rw renewed_sheet (
      record {
        a_ring = ap bus_of old.is_old;
        again = refl;
        masters = refl;
        latency = refl;
        messages = same_message S.streams;
        streams = refl;
      })

  -- which is of kind 9
  pub renewed_first : (sheet_of (renewed S)).head.kind ≡ 9
  renewed_first = ap (λ (x : Sheet). x.head.kind) renewed_sheet
