pub mod NoticeTable
