-- Page 02, Ask 8, 'give the same TTR': a ring that is said twice, by kind 3 and by kinds 9 and 10, has the same figures and the same answer. Assumes nothing.
use mathlib.Core.Path.{◌≡◌, ap, ◌∙◌}
use Prim.Native.Nat.{ℕ, zero, suc, ◌+◌, ◌-◌, ◌≤◌}
use mathlib.Core.List.{List}
use lib.ListN.{length}
use lib.Dec.{ltb}
use Rattle.common.specs.Sums.{when, first_of}
use Rattle.common.proofs.Sums.{upto_same}
use Rattle.common.proofs.Firsts.{first_same}
use Rattle.sheet_record.specs.declared.Record.{Record}
use Rattle.sheet_rules.specs.Sheets.{Sheet, masters_of, message_of}
use Rattle.profibus_rules.specs.Ring.{Ring, stream_at, ring_of, owns, count, messages, rotation, needed, fails, SameRings}
use Rattle.profibus_rules.specs.Target.{AllPass, FirstFails, Limited, bears, least, target, first_failing}

least_same : (f g : ℕ → ℕ) (n : ℕ) → ((i : ℕ) → f i ≡ g i) → least f n ≡ least g n
unfolding least
least_same f g zero e = e 1
least_same f g (suc n) e = rw (least_same f g n e, e (suc n))

-- what goes by the streams alone: h, and the rotation that all bear
module _ (R R' : Ring) (number : R'.number ≡ R.number) (stream : (i : ℕ) → R'.stream i ≡ R.stream i) where
  pub alike_count : (k : ℕ) → count R' k ≡ count R k
  unfolding count owns
  alike_count k = rw number (upto_same (λ i. when (owns R' k i) 1) (λ i. when (owns R k i) 1) R.number (λ i lo hi. rw (stream i)))

  alike_bears : (i : ℕ) → bears R' i ≡ bears R i
  unfolding bears
  alike_bears i = rw (stream i, alike_count (R.stream i).master)

  pub alike_least : least (bears R') R'.number ≡ least (bears R) R.number
  alike_least = least_same (bears R') (bears R) R'.number alike_bears ∙ ap (least (bears R)) number

module _ {R R' : Ring} (same : SameRings R R') where
  pub same_count : (k : ℕ) → count R' k ≡ count R k
  same_count = alike_count R R' same.number same.stream

  pub same_messages : messages R' ≡ messages R
  unfolding messages
  same_messages = rw same.masters (upto_same R'.longest R.longest R.masters same.longest)

  pub same_needed : (ttr i : ℕ) → needed R' ttr i ≡ needed R ttr i
  unfolding needed rotation
  same_needed ttr i = rw (same.stream i, same_count (R.stream i).master, same_messages)

  pub same_target : target R' ≡ target R
  unfolding target
  same_target = rw same_messages (ap (λ (x : ℕ). x - messages R) (alike_least R R' same.number same.stream))

  same_deadline : (i : ℕ) → (R'.stream i).deadline ≡ (R.stream i).deadline
  same_deadline i = rw (same.stream i)

  same_test : (ttr i : ℕ) → fails R' ttr i ≡ fails R ttr i
  unfolding fails
  same_test ttr i = ap (λ (d : ℕ). ltb d (needed R' ttr i)) (same_deadline i) ∙ ap (ltb (R.stream i).deadline) (same_needed ttr i)

  pub same_first : (ttr : ℕ) → first_failing R' ttr ≡ first_failing R ttr
  unfolding first_failing
  same_first ttr =
      first_same (fails R' ttr) (fails R ttr) R'.number 1 (λ i lo hi. same_test ttr i)
      ∙ ap (λ (n : ℕ). first_of (fails R ttr) n 1) same.number

  -- ---- In the page's words

  pub same_pass : (ttr : ℕ) → AllPass R ttr → AllPass R' ttr
  same_pass ttr p =
      record { each = λ i on. rw (same_needed ttr i, same_deadline i) (p.each i (on.0, rw same.number at on.1)) }

  pub same_fails : (ttr i : ℕ) → FirstFails R ttr i → FirstFails R' ttr i
  same_fails ttr i f =
      record {
        there = (f.there.0, rw same.number f.there.1);
        fails = rw (same_needed ttr i, same_deadline i) f.fails;
        before = λ j lo hi. rw (same_needed ttr j, same_deadline j) (f.before j lo hi);
      }

  pub same_limited : (ttr i : ℕ) → Limited R ttr i → Limited R' ttr i
  same_limited ttr i a =
      record { at_least = rw same.latency a.at_least; passes = same_pass ttr a.passes; by = same_fails (ttr + 1) i a.by }

-- ---- From two sheets

-- sheets that have the same n, L, longest messages and streams say one ring
pub same_rings : (S S' : Sheet) → masters_of S' ≡ masters_of S → S'.head.b ≡ S.head.b
    → ((y : ℕ) → 1 ≤ y → y ≤ masters_of S → message_of S' y ≡ message_of S y) → S'.streams ≡ S.streams → SameRings (ring_of S) (ring_of S')
unfolding ring_of
same_rings S S' masters latency messages streams =
    record {
      masters = masters;
      latency = latency;
      longest = messages;
      number = ap length streams;
      stream = λ i. ap (λ (rs : List Record). stream_at rs i) streams;
    }
