-- The line of an access: which access it is, then the words and numbers of its verdict.
use mathlib.Core.Path.{◌∙◌}
use Rattle.text.proofs.Words.{line_covered}
use Rattle.report.proofs.page.Page.put_access_line.Goals as goal

pub returns : goal.returns
returns c =
    let a = c.args in
    let p = c.put_access_part.ensures in
    let q = c.put_bytes.ensures in
    let e = c.put_eight.ensures in
    let w = c.put_bytes-2.ensures in
    let n = c.put_number.ensures in
    let l = c.put_bytes-3.ensures in
    λ verdict o. record {
      same = l.same ∙ n.same ∙ w.same ∙ e.same ∙ q.same ∙ p.same;
      long = l.long ∙ n.long ∙ w.long ∙ e.long ∙ q.long ∙ p.long;
      wrote = line_covered a.j.number a.r.task a.r.on verdict a.j.partner a.j.word a.j.len o c.requires.1
          p.wrote q.wrote e.wrote w.wrote n.wrote l.wrote;
    }
