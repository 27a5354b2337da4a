use Rattle.std.proofs.Common.{◌≡◌, ℕ, ◌-◌, List, length, drop, vec_len, ap, ◌∙◌, subst}
use Rattle.records.specs.Frames.{Behind}
use Rattle.report.proofs.Coming.{sets_out, more_served, over, if_known, kept_is}
use Rattle.report.proofs.pieces.run_from.Goals as goal

pub loop-turn-init : goal.loop-turn-init
loop-turn-init g c = sets_out _ _ _ _ c.new-out.ensures.bytes c.new-held.ensures.items c.requires

pub returns-then-branch-eq0 : goal.returns-then-branch-eq0
returns-then-branch-eq0 g c =
    let read = c.in_ok-read_piece.ensures in
    if_known _ _
    (over _ _ _ _ _ _ _ _ read.0 c.loop-turn.invariant read.3 read.1 _ _ read.2 c.if-branch-eq0.true read.4 _ c.deref.ensures.value c.in_ok-print_end.ensures.text)

pub loop-turn-preserved : goal.loop-turn-preserved
loop-turn-preserved g c =
    let read = c.in_ok-read_piece.ensures in
    let served = c.in_ok-serve_all.ensures in
    let records = c.serve_all.new.records in
    let held = c.read_piece.new.held in
    let begins = rw c.in_ok-records.ensures.ok_part at c.at.ensures in
    let bytes : c.in_ok-records.records.rest.now ≡ held.items = begins.1 ∙ c.deref-in-loop-turn.ensures.value in
    let left : Behind held.items records.rest.now = subst (λ (xs : List ℕ). Behind xs records.rest.now) bytes served.left in
    let kept : c.keep_last.new.held.items ≡ drop (vec_len held - length records.rest.now) held.items =
    c.keep_last.ensures ∙ ap (λ (xs : List ℕ). drop (vec_len held - length xs) held.items) c.rest-left.ensures in
    more_served _ _ _ _ _ _ _ held.items read.0 c.loop-turn.invariant read.3 read.1 c.in_ok-records.records records _ _ _ _
    begins.0 bytes served.goes_on served.all c.place-place.ensures (kept_is held.items records.rest.now (vec_len held) _ held.ok.0 left kept)
