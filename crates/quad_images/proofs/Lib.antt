mod Rows
