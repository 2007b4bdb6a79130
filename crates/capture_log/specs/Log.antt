-- Page 02, 'Ask 1': what a capture says of a stream, on the list of its records alone. The latest record is first, as in a run the
-- latest arrival is. Assumes nothing.
use Rattle.std.specs.Prelude.{ℕ, ◌+◌, ◌-◌, ◌%◌, ◌^◌, max, Bool, cond, ◌&&◌, List, [], ◌∷◌, ◌==◌, nat_lt}
use Rattle.common.specs.Sums.{when}
use Rattle.capture_log.specs.declared.Event.{Event}

-- ---- Records

-- kind 16: a request of stream i enters its queue
unfoldable pub asks : Event → ℕ → Bool
asks e i = e.kind == 16 && e.stream == i

-- kind 17: its completed answer
unfoldable pub answers : Event → ℕ → Bool
answers e i = e.kind == 17 && e.stream == i

-- what the tester's counter shows at the instant t of a run that found it at z: 32 bits of bp that run over to zero
unfoldable pub stamp_at : ℕ → ℕ → ℕ
stamp_at z t = (z + t) % 2 ^ 32

-- the later stamp minus the earlier one, taken around the wrap of a counter with 32 bits
unfoldable pub around : ℕ → ℕ → ℕ
around later earlier = (later + (2 ^ 32 - earlier)) % 2 ^ 32

-- ---- What stands before the first record

-- for each stream, 1 or 0 requests open, and the stamp of its last request
pub record Before : Type 0 where
  pub waiting : ℕ → ℕ
  pub stamp : ℕ → ℕ

-- a capture begins with none open
abbrev pub fresh : Before
fresh = record { waiting = λ i. 0; stamp = λ i. 0 }

-- ---- Of stream i, behind these records

-- 1 or 0 requests left open
unfoldable pub left : Before → List Event → ℕ → ℕ
unfolding asks answers
left b [] i = b.waiting i
left b (e ∷ es) i = cond (asks e i) 1 (cond (answers e i) 0 (left b es i))

-- the stamp of its last request
unfoldable pub since : Before → List Event → ℕ → ℕ
unfolding asks
since b [] i = b.stamp i
since b (e ∷ es) i = cond (asks e i) e.stamp (since b es i)

-- the response that the answer e shows behind the records es
unfoldable pub shown : Before → List Event → Event → ℕ
unfolding around since
shown b es e = around e.stamp (since b es e.stream)

-- answers
unfoldable pub answered : List Event → ℕ → ℕ
unfolding answers
answered [] i = 0
answered (e ∷ es) i = when (answers e i) 1 + answered es i

-- the largest response, 0 if there is none
unfoldable pub largest : Before → List Event → ℕ → ℕ
unfolding answers shown
largest b [] i = 0
largest b (e ∷ es) i = max (when (answers e i) (shown b es e)) (largest b es i)

-- answers above the bound R
unfoldable pub above : Before → ℕ → List Event → ℕ → ℕ
unfolding answers shown
above b R [] i = 0
above b R (e ∷ es) i = when (answers e i && nat_lt R (shown b es e)) 1 + above b R es i
