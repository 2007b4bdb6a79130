-- What reporting answers and leaves, from the parts that the code calls. Assumes nothing.
use Prim.Native.Nat.{ℕ, min}
use mathlib.Core.Path.{◌≡◌, ap, ◌∙◌}
use mathlib.Core.List.{List}
use mathlib.Core.Bool.{Bool}
use lib.ListN.{length}
use Rattle.text.specs.Text.{item, over}
use Rattle.capture_ages.specs.declared.Watch.{Watch}
use Rattle.capture_watch.specs.Follow.{overdue_run}
use Rattle.report_faults.specs.Faults.{clean}
use Rattle.report_capture.specs.Shown.{capture_text}
use Rattle.report_beside.specs.declared.Hearing.{Hearing}
use Rattle.report_beside.specs.declared.Reported.{Reported}
use Rattle.report_beside.specs.Whole.{Tally, tally, none, text_of, clean_of}
use Rattle.report_beside.specs.Steps.{reported_as}
use Rattle.report_beside.specs.Kept.{Kept, Reports}
use Rattle.report_beside.proofs.Kept.{reports}

-- `late` is the run of requests that are open for too long
module _ (h : Hearing) (masters R left answers largest above asked late old new : List ℕ) (late_is : late ≡ overdue_run h.watch.clock R left asked) where
  abbrev n : ℕ
  n = min h.streams 800

  abbrev w : Watch
  w = h.watch

  abbrev k : List ℕ → List ℕ → Tally
  k since lead = tally left since answers largest above asked lead

  abbrev text : List ℕ → List ℕ
  text run = capture_text h.urgent (item masters) (item R) (item largest) (item answers) (item above) (item left) (item run) w.soon w.whose w.broken n

  abbrev good : List ℕ → Bool
  good run = clean (item above) (item run) (item answers) w.soon w.broken n

  -- both clauses of the contract
  pub promised : (r : Reported) (is-clean : Bool) (m : ℕ) → is-clean ≡ good late → (m ≡ length (text late)) × (new ≡ over (text late) old) → r ≡ reported_as is-clean m
      → ((r ≡ reported_as (clean_of h.streams R w (k none none)) (length (text_of h.urgent h.streams masters R w (k none none))))
      × (new ≡ over (text_of h.urgent h.streams masters R w (k none none)) old))
      × ((urgent : Bool) (s c T J since lead : List ℕ) → Kept urgent s c h masters R T J (k since lead) → Reports urgent s c r old new)
  unfolding text_of clean_of
  promised r is-clean m g t e =
      let says : r ≡ reported_as (good (overdue_run w.clock R left asked)) (length (text (overdue_run w.clock R left asked))) =
      e ∙ (ap (λ (b : Bool). reported_as b m) g ∙ (ap (reported_as (good late)) t.0 ∙ ap (λ (x : List ℕ). reported_as (good x) (length (text x))) late_is)) in
      let stands : new ≡ over (text (overdue_run w.clock R left asked)) old = t.1 ∙ ap (λ (x : List ℕ). over (text x) old) late_is in
      ((says, stands), λ urgent s c T J since lead kept. reports kept r old new says stands)
