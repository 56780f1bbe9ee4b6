use Rattle.xmt_top.proofs.top.do_and_report.Goals as goal

pub returns-clause-reported : goal.returns-clause-reported
returns-clause-reported g c =
    record {
      outcome = c.do_job-outcome.result;
      mid = g.H.Host.told c.do_job-outcome.new.host;
      ended = c.do_job-outcome.ensures.ended;
      same_files = c.report.ensures.only.files;
      same_out = c.report.ensures.only.out;
      same_err = c.do_job-outcome.ensures.only.err;
      earlier = c.do_job-outcome.ensures.only.later;
      later = c.report.ensures.only.later;
      rose = c.do_job-outcome.ensures.fault;
      is_code = c.report.ensures.code;
      line = c.report.ensures.line;
      part = c.report.ensures.part;
      done = c.report.ensures.done;
    }
