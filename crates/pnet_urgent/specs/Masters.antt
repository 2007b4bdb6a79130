-- How the code goes from master to master: the streams of one, gathered by their keys in order of urgency, are searched for, and what is found goes to the places of the streams.
-- Words of inner contracts alone. Assumes nothing.
use Rattle.std.specs.Prelude.{ℕ, ◌+◌, ◌-◌, ◌*◌, ◌/◌, ◌%◌, ◌≤◌, ◌<◌, ◌≡◌, true, false, List, length}
use Rattle.pnet_rules.specs.Segment.{Segment}
use Rattle.pnet_turn.specs.Turn.{at}
use Rattle.pnet_urgent_rules.specs.Urgent.{place, figure, rounds, unmet}
use Rattle.pnet_urgent_search.specs.Walks.{slots_for, Found}

-- ---- One master

-- of the stream whose key stands at a place: its place in the sheet, from 0, and its D
abbrev pub index_at : List ℕ → ℕ → ℕ
index_at keys p = at keys p % 1024

abbrev pub deadline_at : List ℕ → ℕ → ℕ
deadline_at keys p = at keys p / 1024

-- n keys from a place on, of streams that runs of `room` places have room for; no two are of one stream
pub record Keyed (keys : List ℕ) (start n room : ℕ) : Type 0 where
  pub few : n ≤ 80
  pub inside : start + n ≤ length keys
  pub fits : (r : ℕ) → r < n → index_at keys (start + r) < room
  pub distinct : (q r : ℕ) → q < r → r < n → index_at keys (start + q) ≡ index_at keys (start + r) → ⊥

-- T, J and D of n streams, by their keys
pub record Gathered (keys spacings jitters : List ℕ) (start n : ℕ) (Ts Js Ds : List ℕ) : Type 0 where
  pub spacings_are : (r : ℕ) → r < n → at Ts r ≡ at spacings (index_at keys (start + r))
  pub jitters_are : (r : ℕ) → r < n → at Js r ≡ at jitters (index_at keys (start + r))
  pub deadlines_are : (r : ℕ) → r < n → at Ds r ≡ deadline_at keys (start + r)

-- the same, with what a search asks of them: as in a sheet
pub record Ranged (keys spacings jitters : List ℕ) (start n V' : ℕ) : Type 0 where
  pub turn_from : 48 ≤ V'
  pub turn_to : V' ≤ 51040
  pub spacing_from : (r : ℕ) → r < n → 1 ≤ at spacings (index_at keys (start + r))
  pub spacing_to : (r : ℕ) → r < n → at spacings (index_at keys (start + r)) ≤ 1000000000
  pub jitter_to : (r : ℕ) → r < n → at jitters (index_at keys (start + r)) < at spacings (index_at keys (start + r))
  pub deadline_from : (r : ℕ) → r < n → 1 ≤ deadline_at keys (start + r)
  pub deadline_to : (r : ℕ) → r < n → deadline_at keys (start + r) ≤ at spacings (index_at keys (start + r)) - at jitters (index_at keys (start + r))
  pub sorted : (q r : ℕ) → q ≤ r → r < n → deadline_at keys (start + q) ≤ deadline_at keys (start + r)

-- a figure of each of n streams goes to its place; other places keep what they had
pub record Spread (keys : List ℕ) (start n : ℕ) (f : ℕ → ℕ) (old new : List ℕ) : Type 0 where
  pub long : length new ≡ length old
  pub put : (r : ℕ) → r < n → at new (index_at keys (start + r)) ≡ f r
  pub others : (x : ℕ) → ((r : ℕ) → r < n → index_at keys (start + r) ≡ x → ⊥) → at new x ≡ at old x

-- what the search found of n streams: the slots of each and its rounds
pub record Searched (keys spacings jitters : List ℕ) (start n V' : ℕ) (slots turns : List ℕ) : Type 0 where
  pub Ts : List ℕ
  pub Js : List ℕ
  pub Ds : List ℕ
  pub gathered : Gathered keys spacings jitters start n Ts Js Ds
  pub found : (r : ℕ) → r < n → Found (slots_for V' Ts Js n r) (at Ds r / V') (at slots r) (at turns r)

-- a run for each: the place in order, x and the rounds
pub record Served (keys spacings jitters : List ℕ) (start n V' : ℕ) (places figures rounds' newPlaces newFigures newRounds : List ℕ) : Type 0 where
  pub slots : List ℕ
  pub turns : List ℕ
  pub searched : Searched keys spacings jitters start n V' slots turns
  pub by_place : Spread keys start n (λ r. r + 1) places newPlaces
  pub by_figure : Spread keys start n (λ r. V' * at slots r) figures newFigures
  pub by_rounds : Spread keys start n (at turns) rounds' newRounds

-- ---- All of them

-- x and the rounds of stream i; x is 0 where it is not accepted
pub data Sought (S : Segment) (i x m : ℕ) : Type 0 where
  met : 1 ≤ x → x ≡ figure S i → m ≡ rounds S i → unmet S i ≡ false → Sought S i x m
  not_met : x ≡ 0 → unmet S i ≡ true → Sought S i x m

-- the streams of the first y masters have their figures
pub record Solved (S : Segment) (y : ℕ) (places figures rounds' : List ℕ) : Type 0 where
  pub placed : (i : ℕ) → 1 ≤ i → i ≤ S.number → (S.stream i).master ≤ y → at places (i - 1) ≡ place S i
  pub sought : (i : ℕ) → 1 ≤ i → i ≤ S.number → (S.stream i).master ≤ y → Sought S i (at figures (i - 1)) (at rounds' (i - 1))
